-- `reading::field` meets its contract: `number_read` is the law.
use mathlib.Core.Path.{◌≡◌, sym}
use Prim.Native.Nat.{◌*◌, ◌%◌, ◌^◌}
use native.Mathlib.Nat.{one-mul, add_comm}
use native.Mathlib.Numerals.{add-one}
use native.Mathlib.Omega.{arith}
use lib.Pow.{shl_exact}
use Rattle.lists.proofs.Bytes.{number_read}
use Rattle.reading.proofs.field.Goals as goal

pub returns : goal.returns
returns c =
    let one : 1 * 2 ^ c.args.width % 2 ^ 16 ≡ 1 * 2 ^ c.args.width = shl_exact 1 c.args.width 16 (omega arith) (omega arith) in
    let g = c.type_inv.block in
    rw (one, one-mul, c.from_le_bytes-two.ensures, c.byte.ensures, c.byte-2.ensures, add_comm, add-one)
    (sym (number_read c.args.block.now (λ i h. omega (arith, g i)) c.args.at c.args.width (omega arith)))
