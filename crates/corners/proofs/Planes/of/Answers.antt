-- `corners::Planes::of` meets its contract.
use Rattle.std.proofs.Common.{replicate, arith}
use Rattle.lists.proofs.Rows.{written_next}
use Rattle.corners.proofs.Planes.of.Goals as goal

pub loop-i-preserved : goal.loop-i-preserved
loop-i-preserved c =
    let at = c.loop-i in
    let own = c.pixel_at-c.ensures in (
      rw (at.invariant.0, own) (written_next 0 _ (replicate 16 0) at.i (omega arith)),
      rw (at.invariant.1, own) (written_next 0 _ (replicate 16 0) at.i (omega arith)),
      rw (at.invariant.2, own) (written_next 0 _ (replicate 16 0) at.i (omega arith)),
    )
