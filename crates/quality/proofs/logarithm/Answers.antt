-- `quality::logarithm` meets its contract, by the laws of its bits.
use Rattle.std.proofs.Common.{arith}
use Rattle.quality.proofs.Bits.{log_start, log_next, log_done, log_small}
use Rattle.quality.proofs.logarithm.Goals as goal

pub loop-i-init : goal.loop-i-init
loop-i-init c =
    let s = log_start c.args.n c.from.result c.requires (omega arith) c.from.ensures in
    (s.0, s.1, omega arith)

pub overflow_add-log : goal.overflow_add-log
overflow_add-log c =
    let e = log_next c.loop-i.log c.loop-i.i c.loop-i.x c.args.n (omega arith) c.loop-i.invariant.2 c.loop-i.invariant.0 in
    omega (arith, rw (← c.log_bit.ensures.is) at e, log_small c.args.n c.requires (omega arith))

pub loop-i-preserved : goal.loop-i-preserved
loop-i-preserved c =
    let e = log_next c.loop-i.log c.loop-i.i c.loop-i.x c.args.n (omega arith) c.loop-i.invariant.2 c.loop-i.invariant.0 in
    (rw (c.log_bit.ensures.is, c.scaled_square-x.ensures.is) e, c.scaled_square-x.ensures.again, omega arith)

pub returns-clause-value : goal.returns-clause-value
returns-clause-value c = log_done c.loop-i.log c.loop-i.i c.loop-i.x c.args.n c.loop-i-test.false c.loop-i.invariant.0

pub returns-clause-small : goal.returns-clause-small
returns-clause-small c =
    let e = log_done c.loop-i.log c.loop-i.i c.loop-i.x c.args.n c.loop-i-test.false c.loop-i.invariant.0 in
    omega (arith, e, log_small c.args.n c.requires (omega arith))
