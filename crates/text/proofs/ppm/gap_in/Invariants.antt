-- The loop of `text::ppm::gap_in`: the bytes so far, and those of the gap that are left, are those of the gap.
use Prim.Native.Nat.{◌+◌}
use mathlib.Core.Path.{◌≡◌}
use mathlib.Core.Bool.{false}
use lib.ListN.{drop}
use Rattle.text.specs.Ppm.{gap_in}
use Rattle.text.proofs.ppm.gap_in.Given as goal

abbrev pub invariant-loop-at : goal.invariant-loop-at
invariant-loop-at l = l.at + gap_in l.comment (drop l.at l.bytes) ≡ gap_in false l.bytes
