-- `block::pixels::distance` meets its contract. The invariant: the sum over the first i pixels.
use Prim.Native.Nat.{ℕ, ◌+◌}
use native.Mathlib.Omega.{arith}
use mathlib.Core.Path.{◌≡◌, refl, sym, ap₂, ◌∙◌}
use lib.ListN.{get_or}
use borrow.Author.Rules.{rules}
use Rattle.lists.specs.Rows.{over_pixels}
use Rattle.lists.proofs.Sums.{sum_to-suc}
use Rattle.bptc.specs.Internal.Colour.{black, colours_of, dist_sq}
use Rattle.block.proofs.pixels.distance.Goals as goal

pub loop-i-init : goal.loop-i-init
loop-i-init c = (refl, search rules)

pub loop-i-preserved : goal.loop-i-preserved
loop-i-preserved c =
    let a = c.args in
    let at = c.loop-i in
    let apart : ℕ → ℕ = λ (i : ℕ). dist_sq (get_or (colours_of a.pixels.now) i black) (get_or a.colours.now i black) in
    let own : c.dist_sq-sum.result ≡ apart at.i = rw (← c.pixel_at.ensures) c.dist_sq-sum.ensures.0 in
    (ap₂ ◌+◌ at.invariant.0 own ∙ sym (sum_to-suc apart at.i), search rules)

pub returns : goal.returns
unfolding over_pixels
returns c =
    let e : c.loop-i.i ≡ 16 = omega arith in
    rw e at c.loop-i.invariant.0
