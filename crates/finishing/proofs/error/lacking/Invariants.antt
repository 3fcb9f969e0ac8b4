-- `finishing::error::lacking` meets its contract. The invariant: the sum over the first i bytes.
use Prim.Native.Nat.{◌*◌, ◌≤◌}
use mathlib.Core.Path.{◌≡◌}
use Rattle.lists.specs.Rows.{sum_to}
use Rattle.finishing.proofs.Lacking.{lack_at}
use Rattle.finishing.proofs.error.lacking.Given as goal

abbrev pub invariant-loop-x : goal.invariant-loop-x
invariant-loop-x l =
    (l.sum ≡ sum_to (lack_at l.px) l.x-index) × (l.sum ≤ l.x-index * 65025)
