-- `corners::marks` meets its contract.
use Rattle.std.proofs.Common.{replicate, arith}
use Rattle.lists.proofs.Rows.{written_next}
use Rattle.corners.proofs.marks.Goals as goal

pub loop-i-preserved : goal.loop-i-preserved
loop-i-preserved c = rw c.loop-i.invariant (written_next 0 _ (replicate 16 0) c.loop-i.i (omega arith))
