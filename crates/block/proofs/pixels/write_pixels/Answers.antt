-- `block::pixels::write_pixels` meets its contract. The invariant: the bytes of the first i colours are written.
use Prim.Native.Nat.{◌*◌}
use native.Mathlib.Omega.{arith}
use mathlib.Core.Path.{◌≡◌, refl, ◌∙◌}
use lib.ListN.{length}
use Rattle.lists.specs.Rows.{written}
use Rattle.bptc.proofs.PixelBytes.{written-pixel, written-pixels}
use Rattle.block.proofs.pixels.write_pixels.Goals as goal

pub loop-i-init : goal.loop-i-init
unfolding written
loop-i-init c = refl

pub loop-i-preserved : goal.loop-i-preserved
loop-i-preserved c =
    let at = c.loop-i in
    rw at.invariant (written-pixel c.args.colours.now c.args.pixels.now at.i (omega arith) (omega arith))

pub returns : goal.returns
returns c =
    let e : c.loop-i.i * 3 ≡ length c.args.pixels.now = omega arith in
    rw e at c.loop-i.invariant ∙ written-pixels c.args.colours.now c.args.pixels.now (omega arith)
