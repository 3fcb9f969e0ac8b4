-- `corners::Planes::boxes` meets its contract. The invariant: the boxes around those of the first i colours that are in each subset.
use Rattle.std.proofs.Common.{ℕ, ◌≡◌}
use lib.Dec.{eqb}
use Rattle.lists.specs.Digits.{bit}
use Rattle.corners.specs.Corners.{box_to, colour_in}
use Rattle.corners.proofs.Planes.boxes.Given as goal

abbrev pub invariant-loop-i : goal.invariant-loop-i
invariant-loop-i l =
    (l.first ≡ box_to (colour_in l.self) (λ (k : ℕ). eqb (bit l.mask k) 0) l.i)
    × (l.second ≡ box_to (colour_in l.self) (λ (k : ℕ). eqb (bit l.mask k) 1) l.i)
