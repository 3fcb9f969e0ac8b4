-- `search::least::least` meets its contract. The invariant: the first i are written.
use Prim.Native.Nat.{ℕ}
use mathlib.Core.Path.{◌≡◌}
use mathlib.Core.List.{[]}
use lib.ListN.{get_or, replicate}
use Rattle.lists.specs.Rows.{written}
use Rattle.keys.specs.Keys.{least_of4}
use Rattle.search.proofs.least.least.Given as goal

abbrev pub invariant-loop-i : goal.invariant-loop-i
invariant-loop-i l = l.best ≡ written (λ (i : ℕ). least_of4 (λ (c : ℕ). get_or (get_or l.columns i []) c 0)) l.i (replicate 16 0)
