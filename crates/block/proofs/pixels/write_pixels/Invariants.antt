-- `block::pixels::write_pixels` meets its contract. The invariant: the bytes of the first i colours are written.
use Prim.Native.Nat.{◌*◌}
use mathlib.Core.Path.{◌≡◌}
use Rattle.lists.specs.Rows.{written}
use Rattle.bptc.proofs.PixelBytes.{byte_at}
use Rattle.block.proofs.pixels.write_pixels.Given as goal

abbrev pub invariant-loop-i : goal.invariant-loop-i
invariant-loop-i l = l.pixels ≡ written (byte_at l.colours) (l.i * 3) l.initial.pixels
