-- `shades::shades` meets its contract.
use Rattle.std.proofs.Common.{arith}
use Rattle.shades.specs.Shade.{shade_of}
use Rattle.shades.proofs.Triples.{block_written}
use Rattle.shades.proofs.shades.Goals as goal

pub loop-k-preserved : goal.loop-k-preserved
loop-k-preserved c =
    rw c.loop-k.invariant
    (block_written (λ e. shade_of c.args.scale e c.args.white) c.args.errors.now c.args.out.now c.loop-k.k c.shade-byte.result (omega arith)
    c.shade-byte.ensures)
