-- `closest::indexes::summed` meets its contract. The invariant: the sums over the first i pixels.
use mathlib.Core.Path.{◌≡◌}
use lib.Dec.{eqb}
use lib.ListN.{get_or}
use Rattle.lists.specs.Tests.{pick}
use Rattle.lists.specs.Rows.{sum_to}
use Rattle.lists.specs.Digits.{bit}
use Prim.Native.Nat.{ℕ, ◌*◌, ◌/◌, ◌^◌, ◌≤◌}
use Rattle.closest.proofs.indexes.summed.Given as goal

abbrev pub invariant-loop-i : goal.invariant-loop-i
invariant-loop-i l =
    (l.all ≡ sum_to (λ (k : ℕ). get_or l.best k 0 / 8) l.i)
    × (l.second ≡ sum_to (λ (k : ℕ). pick (eqb (bit l.mask k) 1) (get_or l.best k 0 / 8) 0) l.i)
    × ((l.all ≤ l.i * (2 ^ 20)) × (l.second ≤ l.i * (2 ^ 20)))
