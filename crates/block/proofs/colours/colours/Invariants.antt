-- `block::colours::colours` meets its contract. The invariant: the first i colours are written.
use Prim.Native.Nat.{ℕ}
use mathlib.Core.Path.{◌≡◌}
use lib.ListN.{get_or, replicate}
use Rattle.lists.specs.Rows.{written}
use Rattle.lists.specs.Digits.{bit}
use Rattle.bptc.specs.Internal.Colour.{black}
use Rattle.bptc.specs.Internal.Pixels.{pixel_of}
use Rattle.bptc.specs.Internal.Palette.{word_at}
use Rattle.block.proofs.colours.colours.Given as goal

abbrev pub invariant-loop-i : goal.invariant-loop-i
invariant-loop-i g l = l.out ≡ written (λ (i : ℕ). pixel_of (word_at l.rows (bit l.subsets i) (get_or l.f.indices i 0))) l.i (replicate 16 black)
