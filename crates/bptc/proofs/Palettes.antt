-- Laws of a palette, by two stored endpoints and their own p-bits: its colours are bytes, opaque where the mode has no alpha, and the same
-- at the mirrored index of the palette seen from its other end, or after the endpoints changed places.
use Prim.Native.Nat.{ℕ, zero, suc, ◌-◌, ◌/◌, ◌^◌, ◌≤◌, ◌<◌}
use native.Mathlib.Nat.{mod-lt}
use native.Mathlib.Omega.{arith}
use mathlib.Core.Path.{◌≡◌, refl, ap, ap₂, ◌∙◌}
use mathlib.Core.Bool.{Bool, true, false}
use mathlib.Core.List.{List}
use lib.Dec.{ltb}
use borrow.Author.Tests.{ltb-true, le-ltb}
use Rattle.lists.specs.Tests.{pick}
use Rattle.bptc.specs.Mode.{Mode, weight, largest}
use Rattle.bptc.specs.Colour.{Rgba, channel, stored}
use Rattle.bptc.specs.Shown.{own, own_bit, shown_by, end_by, end_shown}
use Rattle.bptc.specs.Palette.{between, shade, palette_of, end_of, palette_at}
use Rattle.bptc.proofs.Modes.{Shades}
use Rattle.bptc.proofs.Colours.{channel_by, end_same}
use Rattle.bptc.proofs.Shading.{between_mirror, between-byte}
use Rattle.bptc.proofs.Pixels.{Shown}

-- the same colour stands at the mirrored index
pub shade_mirror : (m : Mode) → Shades m → (a b : Rgba) (i : ℕ) → i ≤ largest m → shade m b a (largest m - i) ≡ shade m a b i
unfolding shade
shade_mirror m shades a b i h =
    let w : weight m i ≤ 64 = shades.light i h in
    rw (shades.mirror i h) (simp between_mirror)

-- so two endpoints that change places, with their p-bits, mirror their palette: they need agree only in what the mode stores
pub exchange_mirror : (m : Mode) → Shades m → (es fs : List Rgba) (p q s : ℕ) →
    stored m (end_of es s 0) ≡ stored m (end_of fs s 1) → stored m (end_of es s 1) ≡ stored m (end_of fs s 0) →
    own_bit m.own_bits (own m p s) 0 ≡ own_bit m.own_bits (own m q s) 1 → own_bit m.own_bits (own m p s) 1 ≡ own_bit m.own_bits (own m q s) 0 →
    (i : ℕ) → i ≤ largest m → palette_at m es p s (largest m - i) ≡ palette_at m fs q s i
unfolding palette_of
exchange_mirror m shades es fs p q s low high low_bit high_bit i h =
    ap₂ (λ (a b : Rgba). shade m a b (largest m - i)) (end_same m _ _ _ _ shades.seen low low_bit) (end_same m _ _ _ _ shades.seen high high_bit)
    ∙ shade_mirror m shades (end_shown m (own m q s) 0 (end_of fs s 0)) (end_shown m (own m q s) 1 (end_of fs s 1)) i h

-- a channel between two
pub shade_channel : (m : Mode) (a b : Rgba) (i j : ℕ) → j < 4 → channel j (shade m a b i) ≡ between (weight m i) (channel j a) (channel j b)
unfolding shade channel
shade_channel m a b i zero h = refl
shade_channel m a b i (suc zero) h = refl
shade_channel m a b i (suc (suc zero)) h = refl
shade_channel m a b i (suc (suc (suc zero))) h = refl
shade_channel m a b i (suc (suc (suc (suc j)))) h = absurd (omega arith)

bit_lt : (own q h : ℕ) → own ≤ 2 → q < 2 ^ own → own_bit own q h < 2
unfolding own_bit
bit_lt zero q h l k = omega arith
bit_lt (suc zero) q h l k = omega arith
bit_lt (suc (suc zero)) q h l k = mod-lt (q / 2 ^ h) (omega arith)
bit_lt (suc (suc (suc n))) q h l k = absurd (omega arith)

opaque_between : (w : ℕ) → w ≤ 64 → between w 255 255 ≡ 255
unfolding between
opaque_between w h = omega arith

module _ (m : Mode) (shades : Shades m) where
  -- a shown endpoint has bytes for channels
  pub end_byte : (q h : ℕ) (c : Rgba) → q < 2 ^ m.own_bits → ((j : ℕ) → j < m.channels → channel j c < 2 ^ m.channel_bits) → Shown (end_shown m q h c)
  unfolding end_by
  end_byte q h c small kept j l =
      rw (channel_by (λ (j : ℕ). pick (ltb j m.channels) (shown_by m.channel_bits m.own_bits (own_bit m.own_bits q h) (channel j c)) 255) j l) (go (ltb j m.channels) refl)
    where
      go : (t : Bool) → ltb j m.channels ≡ t → pick t (shown_by m.channel_bits m.own_bits (own_bit m.own_bits q h) (channel j c)) 255 < 256
      go true e = shades.byte _ _ (bit_lt m.own_bits q h shades.narrow small) (kept j (ltb-true j _ e))
      go false e = omega arith

  -- and so has a colour between two
  pub shade_byte : (a b : Rgba) (i : ℕ) → i ≤ largest m → Shown a → Shown b → Shown (shade m a b i)
  shade_byte a b i h x y j l = rw (shade_channel m a b i j l) (between-byte _ _ _ (shades.light i h) (x j l) (y j l))

  -- a channel that the mode lacks is 255
  pub palette_alpha : (a b : Rgba) (q i j : ℕ) → i ≤ largest m → m.channels ≤ j → j < 4 → channel j (palette_of m a b q i) ≡ 255
  unfolding palette_of end_by
  palette_alpha a b q i j h past l =
      shade_channel m (end_shown m q 0 a) (end_shown m q 1 b) i j l
      ∙ ap₂ (between (weight m i)) (end_past 0 a) (end_past 1 b)
      ∙ opaque_between (weight m i) (shades.light i h)
    where
      end_past : (h : ℕ) (c : Rgba) → channel j (end_shown m q h c) ≡ 255
      end_past h c =
          channel_by (λ (j : ℕ). pick (ltb j m.channels) (shown_by m.channel_bits m.own_bits (own_bit m.own_bits q h) (channel j c)) 255) j l
          ∙ ap (λ (t : Bool). pick t (shown_by m.channel_bits m.own_bits (own_bit m.own_bits q h) (channel j c)) 255) (le-ltb j m.channels past)
