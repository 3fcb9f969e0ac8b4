-- Candidates as calls of a chooser.
use Rattle.std.specs.Prelude.{List, map}
use Rattle.bptc_block.specs.declared.Candidate.{Candidate}
use Rattle.chooser.specs.Calls.{Call, offer}

-- an offer of each
abbrev pub offers : List Candidate → List Call
offers cs = map offer cs
