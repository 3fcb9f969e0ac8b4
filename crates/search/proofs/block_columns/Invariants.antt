-- `search::block_columns` meets its contract. The invariant: the columns of the first i pixels are written.
use Prim.Native.Nat.{ℕ, ◌*◌}
use mathlib.Core.Path.{◌≡◌}
use lib.ListN.{replicate}
use Rattle.lists.specs.Rows.{written}
use Rattle.keys.specs.Keys.{pixel_key}
use Rattle.search.proofs.block_columns.Given as goal

abbrev pub invariant-loop-i : goal.invariant-loop-i
invariant-loop-i g l =
    l.out ≡ written (λ (i : ℕ). g.M.Layout.columns (pixel_key (g.M.Layout.WIDTH * 2) g.M.Layout.WIDTH l.numbers l.px l.mask i)) l.i (replicate 16 (replicate 4 0))
