-- `figures::row::measure_row` meets its contract.
use Rattle.std.proofs.Common.{◌≡◌, ap, ◌∙◌, arith}
use Rattle.lists.proofs.Rows.{written_next}
use Rattle.bptc_block.specs.Answers.{Measured}
use Rattle.figures.specs.Row.{measured_at}
use Rattle.figures.proofs.Declined.{row_next, measured_refusal, measured_error, declined_inside}
use Rattle.figures.proofs.row.measure_row.Goals as goal

pub loop-k-preserved : goal.loop-k-preserved
loop-k-preserved c =
    let at = c.loop-k in
    let a = c.args in
    let m = c.measure_at-measured in
    let error : c.unwrap_or.result ≡ (measured_at a.groups.now a.blocks.now at.k).error =
    c.unwrap_or.ensures ∙ measured_error m.result ∙ ap (λ (m : Measured). m.error) m.ensures in (
      rw (at.invariant.0, error) (written_next 0 _ a.errors.now at.k (omega arith)),
      row_next _ at.k _ at.row _ at.invariant.1 (measured_refusal m.result ∙ ap (λ (m : Measured). m.refusal) m.ensures) c.further-row.ensures,
    )

pub returns-clause-inside : goal.returns-clause-inside
returns-clause-inside c = declined_inside _ c.loop-k.k _ c.loop-k.row (omega arith) c.loop-k.invariant.1
