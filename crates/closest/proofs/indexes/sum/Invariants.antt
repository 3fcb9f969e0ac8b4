-- `closest::indexes::sum` meets its contract. The invariant: the sum over the pixels so far.
use Prim.Native.Nat.{ℕ, ◌*◌, ◌/◌, ◌^◌, ◌≤◌}
use mathlib.Core.Path.{◌≡◌}
use lib.ListN.{get_or}
use Rattle.lists.specs.Rows.{sum_to}
use Rattle.closest.proofs.indexes.sum.Given as goal

abbrev pub invariant-loop-key : goal.invariant-loop-key
invariant-loop-key l = (l.all ≡ sum_to (λ (k : ℕ). get_or l.best k 0 / 8) l.key-index) × (l.all ≤ l.key-index * 2 ^ 20)
