-- `groups::gather` meets its contract. The invariant: the first i places are written.
use Rattle.std.proofs.Common.{ℕ, ◌≡◌, get_or}
use Rattle.lists.specs.Rows.{written}
use Rattle.groups.proofs.gather.Given as goal

abbrev pub invariant-loop-i : goal.invariant-loop-i
invariant-loop-i g l = l.to ≡ written (λ (k : ℕ). get_or l.from (g.places k) 0) l.i l.initial.to
