-- The places of `groups::Band::cut`.
use Rattle.groups.specs.Cutting.{source_of}
use Rattle.groups.proofs.Band.cut.Given as goal

abbrev pub ghost-gather : goal.ghost-gather
ghost-gather a = source_of a.place.0.now.width a.place.0.now.rows
