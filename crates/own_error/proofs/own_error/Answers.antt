-- `own_error::own_error` meets its contract.
use Rattle.std.proofs.Common.{ℕ, ◌+◌, ap₂, sym, ◌∙◌, rules}
use Rattle.lists.proofs.Sums.{sum_to-suc}
use Rattle.own_error.specs.Own.{own_at}
use Rattle.own_error.proofs.own_error.Goals as goal

pub loop-k-preserved : goal.loop-k-preserved
loop-k-preserved c =
    let a = c.args in
    let at = c.loop-k in
    let f : ℕ → ℕ = own_at a.band.width a.band.rows a.groups.now a.blocks.now a.errors.now in
    (ap₂ ◌+◌ at.invariant.0 (c.from-total.ensures ∙ c.block_error.ensures) ∙ sym (sum_to-suc f at.k), search rules)
