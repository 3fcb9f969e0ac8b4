-- `block::pixels::distance` meets its contract. The invariant: the sum over the first i pixels.
use Prim.Native.Nat.{ℕ, ◌*◌, ◌≤◌}
use mathlib.Core.Path.{◌≡◌}
use lib.ListN.{get_or}
use Rattle.lists.specs.Rows.{sum_to}
use Rattle.bptc.specs.Internal.Colour.{black, colours_of, dist_sq}
use Rattle.block.proofs.pixels.distance.Given as goal

abbrev pub invariant-loop-i : goal.invariant-loop-i
invariant-loop-i l =
    (l.sum ≡ sum_to (λ (i : ℕ). dist_sq (get_or (colours_of l.pixels) i black) (get_or l.colours i black)) l.i) × (l.sum ≤ l.i * 195075)
