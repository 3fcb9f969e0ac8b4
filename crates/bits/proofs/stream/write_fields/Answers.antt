-- `bits::stream::write_fields` meets its contract.
use native.Mathlib.Omega.{arith}
use native.Mathlib.Nat.{zero-add, mul-one}
use Prim.Native.Nat.{ℕ, ◌*◌, ◌-◌, ◌^◌}
use mathlib.Core.Path.{◌≡◌, ap, ◌∙◌}
use mathlib.Core.List.{map}
use lib.ListN.{length-map}
use borrow.Author.Rules.{rules}
use Rattle.bptc.specs.Mode.{p_bits}
use Rattle.bptc.specs.Internal.Pixels.{pixel_of}
use Rattle.bptc_block.proofs.Front.{front_steps}
use Rattle.bptc_block.proofs.Modes.{lawful_of}
use Rattle.bptc_rust.proofs.Digits.{one_shl}
use Rattle.bits.proofs.stream.write_fields.Goals as goal

pub write_endpoints_rgb-stored-requires-clause-channels : goal.write_endpoints_rgb-stored-requires-clause-channels
write_endpoints_rgb-stored-requires-clause-channels g c = rw (c.endpoints-ends.ensures, c.width.ensures) c.requires.stored

pub returns : goal.returns
returns g c =
    let m = g.M.Mode in
    let a = c.args.w in
    let number : c.from-number.result ≡ m.mode.number = c.from-number.ensures ∙ c.NUMBER.ensures ∙ m.number_is in
    let own : c.P_BITS.result ≡ p_bits m.mode = c.P_BITS.ensures ∙ m.p_bits_are in
    let last : 16 * c.INDEX_BITS.result - 2 ≡ 16 * m.mode.index_bits - 2 = ap (λ (n : ℕ). 16 * n - 2) (c.INDEX_BITS.ensures ∙ m.index_bits_are) in
    let mode = c.write_u64-mode in
    let stored = c.write_endpoints_rgb-stored in
    let first : mode.result.data ≡ 2 ^ m.mode.number =
    mode.ensures.same ∙ rw (c.new.ensures.none, c.new.ensures.start, number, one_shl 64 m.mode.number (omega (arith, (lawful_of m.mode m.is_mode).low)), mul-one, zero-add) in
    front_steps m.mode.number m.mode.channel_bits (p_bits m.mode) (16 * m.mode.index_bits - 2) a.partition a.p a.indexes (map pixel_of a.ends) (length-map a.ends pixel_of ∙ search rules)
    first (mode.ensures.place ∙ rw (c.new.ensures.start, number, zero-add)) (rw c.from.ensures at c.write_u64-front.ensures.same) c.write_u64-front.ensures.place
    (rw (c.width.ensures, c.endpoints-ends.ensures) at stored.ensures.same) (rw c.width.ensures at stored.ensures.place)
    (rw c.from-2.ensures at c.write_u64-own.ensures.same) (rw own at c.write_u64-own.ensures.place) c.write_u64.ensures.same
