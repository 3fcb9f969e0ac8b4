-- `corners::marks` meets its contract. The invariant: the first i marks are written.
use Rattle.std.proofs.Common.{ℕ, ◌*◌, ◌≡◌, replicate}
use Rattle.lists.specs.Rows.{written}
use Rattle.lists.specs.Digits.{bit}
use Rattle.corners.proofs.marks.Given as goal

abbrev pub invariant-loop-i : goal.invariant-loop-i
invariant-loop-i l = l.mark-items ≡ written (λ (k : ℕ). bit l.mask k * 255) l.i (replicate 16 0)
