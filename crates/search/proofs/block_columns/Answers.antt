-- `search::block_columns` meets its contract. The invariant: the columns of the first i pixels are written.
use native.Mathlib.Omega.{arith}
use Prim.Native.Nat.{ℕ, ◌*◌}
use mathlib.Core.Path.{◌≡◌, ◌∙◌}
use mathlib.Core.List.{[]}
use lib.ListN.{replicate}
use Rattle.lists.proofs.Rows.{written_next}
use Rattle.keys.specs.Keys.{pixel_key}
use Rattle.search.proofs.block_columns.Goals as goal

pub loop-i-preserved : goal.loop-i-preserved
unfolding pixel_key
loop-i-preserved g c =
    let at = c.loop-i in
    let a = c.args in
    let key : ℕ → ℕ → ℕ = pixel_key (g.M.Layout.WIDTH * 2) g.M.Layout.WIDTH a.numbers.now a.px.now a.mask in
    let e : c.columns.result ≡ g.M.Layout.columns (key at.i) = c.columns.ensures ∙ rw (c.pixel_at.ensures, c.WIDTH.ensures) in
    rw (at.invariant, e) (written_next [] (λ (i : ℕ). g.M.Layout.columns (key i)) (replicate 16 (replicate 4 0)) at.i (omega arith))
