-- `own_error::edge_error` meets its contract.
use Rattle.std.proofs.Common.{ℕ, ◌+◌, ◌≡◌, List, ap, ap₂, sym, ◌∙◌, arith, rules}
use Rattle.lists.specs.Rows.{sum_to, over_pixels}
use Rattle.lists.specs.Tests.{pick}
use Rattle.lists.proofs.Sums.{sum_to-suc}
use Rattle.bptc_block.specs.RoundTrip.{pixels_apart}
use Rattle.own_error.specs.Own.{own_pixel, own_apart}
use Rattle.own_error.proofs.edge_error.Goals as goal

pub loop-i-preserved : goal.loop-i-preserved
loop-i-preserved c =
    let a = c.args in
    let at = c.loop-i in
    let f : ℕ → ℕ = λ (i : ℕ). pick (own_pixel a.band.width a.band.rows a.k i) (pixels_apart a.group.now c.read.new.pixels i) 0 in
    (ap₂ ◌+◌ at.invariant.0 c.pixel_error-sum.ensures.own ∙ sym (sum_to-suc f at.i), search rules)

pub returns-clause-own : goal.returns-clause-own
unfolding own_apart over_pixels
returns-clause-own c =
    let a = c.args in
    let at = c.loop-i in
    let all : at.i ≡ 16 = omega arith in
    let f : List ℕ → ℕ → ℕ =
    λ (shown : List ℕ) (i : ℕ). pick (own_pixel a.band.width a.band.rows a.k i) (pixels_apart a.group.now shown i) 0 in
    at.invariant.0
    ∙ ap (sum_to (f c.read.new.pixels)) all
    ∙ ap (λ (shown : List ℕ). sum_to (f shown) 16) c.read.ensures.part
