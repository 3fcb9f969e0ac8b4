-- p_promote shows the bytes that the chapter gives a stored endpoint.
use Prim.Native.Nat.{ℕ, ◌^◌, ◌<◌}
use mathlib.Core.Path.{◌≡◌}
use mathlib.Core.Bool.{Bool, true, false}
use lib.Bits.{bit_or}
use lib.Dec.{eqb, eqb→eq}
use Rattle.lists.proofs.Tables.{tested}
use Rattle.bptc.specs.declared.Rgb.{Rgb}
use Rattle.bptc.specs.Mode.{Mode, mode1, mode3}
use Rattle.bptc.specs.Internal.Colour.{each, Below}
use Rattle.bptc.specs.Shown.{widen}
use Rattle.bptc.specs.Internal.Shown.{p_shown, shown}
use Rattle.bptc.proofs.ColourBounds.{rgb_eq}
use Rattle.bptc_rust.specs.Words.{shl}
use Rattle.bptc_rust.specs.Colour.{promote, as_u8, p_promote}

-- of a mode
abbrev pub Promotes : Mode → Type 0
Promotes m = (c : Rgb) (p : Bool) → Below (2 ^ m.channel_bits) c → p_promote m.channel_bits c p ≡ each (shown m (as_u8 p)) c

-- by a test of every stored channel
byte1 : (p : Bool) (e : ℕ) → e < 64 → promote (bit_or (shl 8 e 1) (as_u8 p)) 7 ≡ shown mode1 (as_u8 p) e
unfolding promote shown p_shown widen
byte1 true e h = eqb→eq _ _ (tested (λ (e : ℕ). eqb (promote (bit_or (shl 8 e 1) 1) 7) (shown mode1 1 e)) 64 tt e h)
byte1 false e h = eqb→eq _ _ (tested (λ (e : ℕ). eqb (promote (bit_or (shl 8 e 1) 0) 7) (shown mode1 0 e)) 64 tt e h)

byte3 : (p : Bool) (e : ℕ) → e < 128 → bit_or (shl 8 e 1) (as_u8 p) ≡ shown mode3 (as_u8 p) e
unfolding shown p_shown widen
byte3 true e h = eqb→eq _ _ (tested (λ (e : ℕ). eqb (bit_or (shl 8 e 1) 1) (shown mode3 1 e)) 128 tt e h)
byte3 false e h = eqb→eq _ _ (tested (λ (e : ℕ). eqb (bit_or (shl 8 e 1) 0) (shown mode3 0 e)) 128 tt e h)

-- mode 1
pub promotes1 : Promotes mode1
unfolding p_promote
promotes1 c p h = rgb_eq (byte1 p _ h.r) (byte1 p _ h.g) (byte1 p _ h.b)

-- mode 3
pub promotes3 : Promotes mode3
unfolding p_promote
promotes3 c p h = rgb_eq (byte3 p _ h.r) (byte3 p _ h.g) (byte3 p _ h.b)
