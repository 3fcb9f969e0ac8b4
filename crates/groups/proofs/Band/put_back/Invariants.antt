-- The places of `groups::Band::put_back`.
use Rattle.groups.specs.Cutting.{place_of}
use Rattle.groups.proofs.Band.put_back.Given as goal

abbrev pub ghost-gather : goal.ghost-gather
ghost-gather a = place_of a.place.0.now.width
