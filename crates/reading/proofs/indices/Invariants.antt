-- `reading::indices` meets its contract. The invariant: the first i indices are written, and the next one begins at `next`.
use Prim.Native.Nat.{ℕ, ◌+◌}
use mathlib.Core.Path.{◌≡◌}
use lib.ListN.{get_or, take, drop, replicate}
use Rattle.lists.specs.Rows.{sum, written}
use Rattle.lists.specs.Bits.{split}
use Rattle.lists.specs.Bytes.{number}
use Rattle.bptc_block.specs.Fields.{widths}
use Rattle.reading.proofs.indices.Given as goal

abbrev pub invariant-loop-i : goal.invariant-loop-i
invariant-loop-i g l =
    (l.next ≡ sum (take (15 + l.i) (widths g.M.Mode.mode l.partition.number)))
    × (l.index-items ≡ written (λ (i : ℕ). get_or (drop 15 (split (widths g.M.Mode.mode l.partition.number) (number l.block))) i 0) l.i (replicate 16 0))
