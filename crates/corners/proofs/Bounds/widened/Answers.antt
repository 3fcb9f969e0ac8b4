-- `corners::Bounds::widened` meets its contract: a mark of 255 leaves the box as it is.
use Rattle.std.proofs.Common.{arith}
use lib.Dec.{eqb}
use Rattle.corners.specs.Corners.{widened}
use Rattle.corners.proofs.Boxing.{marked-lesser, marked-greater, box_picked}
use Rattle.corners.proofs.Bounds.widened.Goals as goal

pub returns : goal.returns
unfolding widened
returns c =
    let k = c.args.self in
    let x = c.args.c in
    let o = c.args.outside in
    rw (
      c.min.ensures,
      c.min-2.ensures,
      c.min-3.ensures,
      c.max.ensures,
      c.max-2.ensures,
      c.max-3.ensures,
      marked-lesser k.low.r x.r o (omega arith) (omega arith) (omega arith) (omega arith),
      marked-lesser k.low.g x.g o (omega arith) (omega arith) (omega arith) (omega arith),
      marked-lesser k.low.b x.b o (omega arith) (omega arith) (omega arith) (omega arith),
      marked-greater k.high.r x.r o (omega arith) (omega arith) (omega arith),
      marked-greater k.high.g x.g o (omega arith) (omega arith) (omega arith),
      marked-greater k.high.b x.b o (omega arith) (omega arith) (omega arith),
    )
    (box_picked (eqb o 0) k (widened k x))
