-- `key_numbers::rows::flat` meets its contract. The invariant: the first k places of each half are written.
use Prim.Native.Nat.{ℕ}
use mathlib.Core.Path.{◌≡◌}
use mathlib.Core.List.{List, ◌++◌}
use lib.ListN.{get_or, replicate}
use Rattle.lists.specs.Rows.{written}
use Rattle.bptc.specs.declared.Colour.{Colour}
use Rattle.key_numbers.proofs.rows.flat.Given as goal

-- the number at place k of a row
abbrev pub number : List Colour → ℕ → ℕ
number row k = (get_or row k (record { 0 = 0 })).0

abbrev pub invariant-loop-k : goal.invariant-loop-k
invariant-loop-k l =
    l.out ≡ written (number l.p0) l.k (replicate 8 0) ++ written (number l.p1) l.k (replicate 8 0)
