-- `figures::row::read_row` meets its contract.
use Rattle.std.proofs.Common.{ℕ, ◌+◌, ◌-◌, ◌*◌, ◌/◌, ◌<◌, ◌≡◌, List, length, ap, ◌∙◌, rules, arith}
use Rattle.bptc_block.specs.Answers.{BlockRead}
use Rattle.figures.proofs.Declined.{row_next, read_refusal, declined_inside}
use Rattle.figures.proofs.Showing.{shown_next, shown_refusal}
use Rattle.figures.proofs.row.read_row.Goals as goal

pub loop-k-preserved : goal.loop-k-preserved
loop-k-preserved c =
    let at = c.loop-k in
    let blocks : List ℕ = c.args.blocks.now in
    let groups : List ℕ = c.args.groups.now in
    let n : ℕ = length blocks / 16 in
    let r = c.read-reading in
    let own : length groups ≡ 48 * n = search rules in
    let h : at.k < n = omega arith in
    let block : at.k * 16 + 16 - at.k * 16 ≡ 16 = omega arith in
    let group : at.k * 48 + 48 - at.k * 48 ≡ 48 = omega arith in
    let answer = rw (block, group, at.invariant.0) at r.ensures.answer in
    let part = rw (block, group, at.invariant.0) at r.ensures.part in (
      rw (group, at.invariant.0, part) (shown_next blocks groups n own at.k h),
      row_next _ at.k _ at.row _ at.invariant.1
          (read_refusal r.result ∙ ap (λ (r : BlockRead). r.refusal) answer ∙ shown_refusal blocks groups n own at.k h)
          c.further-row.ensures,
    )

pub returns-clause-inside : goal.returns-clause-inside
returns-clause-inside c = declined_inside _ c.loop-k.k _ c.loop-k.row (omega arith) c.loop-k.invariant.1
