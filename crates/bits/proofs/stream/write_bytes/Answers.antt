-- `bits::stream::write_bytes` meets its contract.
use Prim.Native.Nat.{◌/◌, ◌%◌, ◌^◌, ◌<◌}
use native.Mathlib.Nat.{div-add-mod', mod-lt}
use native.Mathlib.Omega.{arith}
use mathlib.Core.Path.{ap, ◌∙◌}
use lib.Pow.{pow_pos}
use lib.ListN.{drop, length-drop}
use Rattle.lists.specs.Bytes.{bytes}
use Rattle.lists.proofs.Bytes.{length-bytes}
use Rattle.bits.proofs.HalfBytes.{halves-bytes, second_half}
use Rattle.bits.proofs.stream.write_bytes.Goals as goal

pub returns : goal.returns
returns c =
    let n = c.args.bits in
    let high : n / 2 ^ 64 < 2 ^ 64 = omega (arith, c.ranges.bits) in
    rw (c.write_half.ensures, c.write_half-2.ensures) (second_half (bytes 8 (n % 2 ^ 64)) (drop 8 c.args.block.now) (bytes 8 (n / 2 ^ 64)) (length-bytes 8 (n % 2 ^ 64)) (omega (arith, length-drop 8 c.args.block.now, c.told-block)))
    ∙ halves-bytes (n % 2 ^ 64) (n / 2 ^ 64) (mod-lt n (pow_pos 64)) high
    ∙ ap (bytes 16) (div-add-mod' n (2 ^ 64))
