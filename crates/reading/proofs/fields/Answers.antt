-- `reading::fields` meets its contract: each part is read at its place.
use Prim.Native.Nat.{◌+◌, ◌-◌}
use native.Mathlib.Omega.{arith}
use mathlib.Core.Path.{◌≡◌, ap₂, ◌∙◌}
use Rattle.lists.specs.Internal.Fields.{field_at}
use Rattle.lists.specs.Bytes.{number}
use Rattle.reading.proofs.ThreeChannels.{rgb_read}
use Rattle.reading.proofs.fields.Goals as goal

pub returns : goal.returns
returns g c =
    let m = g.M.Mode in
    let n = number c.args.block.now in
    let first : m.mode.number + 7 - 6 ≡ m.mode.number + 1 = omega arith in
    rgb_read m.mode m.is_mode c.args.block.now (rw (c.ends_at.ensures, first) at c.field.ensures) c.ends.ensures
    (c.field-2.ensures ∙ ap₂ (field_at n) c.p_at.ensures (c.P_BITS.ensures ∙ m.p_bits_are)) c.indices.ensures
