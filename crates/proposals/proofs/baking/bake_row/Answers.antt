-- `proposals::baking::bake_row` meets its contract.
use Rattle.std.proofs.Common.{◌+◌, ◌*◌, ◌-◌, ◌<◌, ◌≡◌, length, arith}
use Rattle.lists.proofs.Rows.{written_next}
use Rattle.lists.proofs.Parts.{joined-next}
use Rattle.proposals.specs.Baking.{baked, group_at}
use Rattle.proposals.proofs.Groups.{baked-length}
use Rattle.proposals.proofs.baking.bake_row.Goals as goal

pub loop-k-preserved : goal.loop-k-preserved
loop-k-preserved c =
    let at = c.loop-k in
    let a = c.args in
    let group : at.k * 48 + 48 - at.k * 48 ≡ 48 = omega arith in
    let block : at.k * 16 + 16 - at.k * 16 ≡ 16 = omega arith in
    let h : at.k < length a.errors.now = omega arith in (
      rw (block, at.invariant.0, c.bake.ensures.part, group)
          (joined-next 16 (λ k. (baked (group_at a.groups.now k)).block) a.blocks.now at.k (λ k h. baked-length _)),
      rw (at.invariant.1, c.bake.ensures.answer, group) (written_next 0 _ a.errors.now at.k h),
    )
