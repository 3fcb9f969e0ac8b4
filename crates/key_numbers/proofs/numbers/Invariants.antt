-- `key_numbers::numbers` meets its contract. The invariant: the numbers of the first k colours are written.
use Prim.Native.Nat.{ℕ, ◌/◌, ◌%◌}
use mathlib.Core.Path.{◌≡◌}
use mathlib.Core.List.{◌++◌}
use lib.ListN.{get_or, replicate}
use Rattle.lists.specs.Rows.{written}
use Rattle.bptc.specs.Internal.Pixels.{pixel_of}
use Rattle.keys.specs.Keys.{own_of, step_of}
use Rattle.key_numbers.proofs.numbers.Given as goal

abbrev pub invariant-loop-k : goal.invariant-loop-k
invariant-loop-k g l =
    l.numbers
    ≡ written (λ (i : ℕ). step_of 8 (pixel_of (get_or l.words i 0)).r) l.k (replicate g.row.N 0)
    ++ (written (λ (i : ℕ). step_of 8 (pixel_of (get_or l.words i 0)).g) l.k (replicate g.row.N 0)
    ++ (written (λ (i : ℕ). step_of 8 (pixel_of (get_or l.words i 0)).b) l.k (replicate g.row.N 0)
    ++ written (λ (i : ℕ). own_of 8 (pixel_of (get_or l.words i 0)) (i / l.columns % l.width)) l.k (replicate g.row.N 0)))
