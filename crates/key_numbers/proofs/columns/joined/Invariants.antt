-- `key_numbers::columns::joined` meets its contract. The invariant: the first k places of each half are written.
use Prim.Native.Nat.{ℕ}
use mathlib.Core.Path.{◌≡◌}
use mathlib.Core.List.{◌++◌}
use lib.ListN.{get_or, replicate}
use Rattle.lists.specs.Rows.{written}
use Rattle.key_numbers.proofs.columns.joined.Given as goal

abbrev pub invariant-loop-k : goal.invariant-loop-k
invariant-loop-k l =
    l.out ≡ written (λ (k : ℕ). get_or l.first k 0) l.k (replicate 16 0) ++ written (λ (k : ℕ). get_or l.second k 0) l.k (replicate 16 0)
