-- `keys::key::keys` meets its contract. The invariant: the first j keys are written.
use Prim.Native.Nat.{ℕ, ◌+◌}
use mathlib.Core.Path.{◌≡◌}
use lib.ListN.{replicate}
use Rattle.lists.specs.Rows.{written}
use Rattle.keys.specs.Keys.{key_at}
use Rattle.keys.proofs.key.keys.Given as goal

abbrev pub invariant-loop-j : goal.invariant-loop-j
invariant-loop-j g l = l.keys ≡ written (λ (j : ℕ). key_at l.colours l.numbers l.p (l.at + j)) l.j (replicate g.row.N 0)
