-- `palette::pixels::pixel_at` meets its contract: the three bytes are the pixel.
use native.Mathlib.Omega.{arith}
use mathlib.Core.Path.{sym}
use Rattle.bptc.proofs.ColourBounds.{colour-at}
use Rattle.palette.proofs.pixels.pixel_at.Goals as goal

pub returns : goal.returns
returns c = sym (colour-at c.args.px.now c.args.i (omega arith))
