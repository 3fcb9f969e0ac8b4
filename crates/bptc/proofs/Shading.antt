-- Laws of a palette: seen from its other end it is mirrored, and its colours are bytes.
use Prim.Native.Nat.{ℕ, suc, ◌+◌, ◌-◌, ◌*◌, ◌/◌, ◌^◌, ◌≤◌, ◌<◌}
use native.Mathlib.Nat.{add_comm, mul_assoc, mul-le-mul_left}
use native.Mathlib.Omega.{arith}
use mathlib.Core.Path.{◌≡◌, refl, ap, ap₂, ◌∙◌}
use mathlib.Core.List.{List, [], ◌∷◌, map}
use lib.Arith.{sub-sub_self}
use lib.ListN.{get_or, length, replicate}
use Rattle.lists.specs.Rows.{up_from, written}
use Rattle.lists.proofs.Rows.{get_or-map, get_or-each, written_at, written_same}
use Rattle.lists.proofs.Writing.{length-written}
use Rattle.bptc.specs.declared.Rgb.{Rgb}
use Rattle.bptc.specs.declared.Colour.{Colour}
use Rattle.bptc.specs.Mode.{Mode, weight, largest}
use Rattle.bptc.specs.Internal.Colour.{black, both, Below}
use Rattle.bptc.specs.Internal.Shown.{p_bit, p_shown, end_shown_by, end_rgb, Stored}
use Rattle.bptc.specs.Palette.{between}
use Rattle.bptc.specs.Internal.Palette.{blend, shade_rgb, palette_colour, row_weights, blended_row, blended_rows, palettes, colour, coloured, word_at}
use Rattle.bptc.specs.Internal.Pixels.{pixel_word, pixel_of}
use Rattle.bptc.proofs.ColourBounds.{rgb_eq, word-pixel}
use Rattle.bptc.proofs.Modes.{Shades}
use Rattle.bptc.proofs.ShownBytes.{p-shown-byte}

-- interpolate_rgb: the Rust's weights are four times as large
pub between_rust : (w a b : ℕ) → w ≤ 64 → blend (4 * w) a b ≡ between w a b
unfolding blend between
between_rust w a b h =
    let e : 256 - 4 * w ≡ 4 * (64 - w) = omega arith in
    rw (e, mul_assoc 4 (64 - w) a, mul_assoc 4 w b) (omega arith)

-- of each channel
pub blend-colours : (w : ℕ) (a b : Rgb) → w ≤ 64 → both (blend (4 * w)) a b ≡ both (between w) a b
blend-colours w a b h = rgb_eq (between_rust w _ _ h) (between_rust w _ _ h) (between_rust w _ _ h)

-- from the other end, at the weight that is left
pub between_mirror : (w a b : ℕ) → w ≤ 64 → between (64 - w) b a ≡ between w a b
unfolding between
between_mirror w a b h = rw (sub-sub_self {a = w} {m = 64} h) (ap (λ (n : ℕ). (n + 32) / 64) (add_comm (w * b) ((64 - w) * a)))

pub between-byte : (w a b : ℕ) → w ≤ 64 → a < 256 → b < 256 → between w a b < 256
unfolding between
between-byte w a b h ha hb =
    let x : (64 - w) * a ≤ (64 - w) * 255 = mul-le-mul_left (64 - w) (omega arith) in
    let y : w * b ≤ w * 255 = mul-le-mul_left w (omega arith) in
    omega arith

-- an entry of a block's palettes
pub palettes-at : (m : Mode) (ends : List Rgb) (p s i : ℕ) → s < 2 → i ≤ largest m → get_or (get_or (palettes m ends p) s []) i black ≡ palette_colour m ends p s i
unfolding palettes
palettes-at m ends p s i two h =
    rw (get_or-each [] (λ (s : ℕ). written (palette_colour m ends p s) (suc (largest m)) (replicate 8 black)) 2 s two)
    (written_at black (palette_colour m ends p s) (replicate 8 black) (suc (largest m)) i (omega arith))

module _ (m : Mode) (shades : Shades m) where
  row-weight : (i : ℕ) → i < 8 → get_or (row_weights m) i 0 ≡ 4 * weight m i
  row-weight i h = get_or-each 0 (λ (i : ℕ). 4 * weight m i) 8 i h

  -- and make the palettes
  pub palettes_blended : largest m < 8 → (ends : List Rgb) (p : ℕ) → blended_rows (row_weights m) (suc (largest m)) (map (end_rgb m ends p) (up_from 0 4)) ≡ palettes m ends p
  unfolding blended_rows blended_row palettes palette_colour shade_rgb
  palettes_blended few ends p =
      let same : (a b : Rgb) (i : ℕ) → i < suc (largest m) → both (blend (get_or (row_weights m) i 0)) a b ≡ both (between (weight m i)) a b =
      λ a b i h. ap (λ (w : ℕ). both (blend w) a b) (row-weight i (omega arith)) ∙ blend-colours (weight m i) a b (shades.light i (omega arith)) in
      ap₂ {C = List (List Rgb)} (λ (x y : List Rgb). x ∷ (y ∷ []))
      (written_same black _ _ (replicate 8 black) (suc (largest m)) (same (end_rgb m ends p 0) (end_rgb m ends p 1)))
      (written_same black _ _ (replicate 8 black) (suc (largest m)) (same (end_rgb m ends p 2) (end_rgb m ends p 3)))

  -- from the colours that the endpoints show
  pub palettes-made : largest m < 8 → (ends : List Rgb) (p : ℕ) (shown : List Rgb) → shown ≡ map (end_rgb m ends p) (up_from 0 4) →
      coloured (blended_rows (row_weights m) (suc (largest m)) shown) ≡ coloured (palettes m ends p)
  palettes-made few ends p shown e = ap coloured (ap (blended_rows (row_weights m) (suc (largest m))) e ∙ palettes_blended few ends p)

  -- a shown colour has bytes for channels
  pub end_byte : (ends : List Rgb) (p k : ℕ) → Below (2 ^ m.channel_bits) (get_or ends k black) → Below 256 (end_rgb m ends p k)
  unfolding end_rgb end_shown_by
  end_byte ends p k h =
      let t : p_bit m p k < 2 = omega arith in
      let byte : (e : ℕ) → e < 2 ^ m.channel_bits → p_shown m.channel_bits (p_bit m p k) e < 256 = λ e l. p-shown-byte _ _ e shades.some shades.most t l in
      record { r = byte _ h.r; g = byte _ h.g; b = byte _ h.b }

  shade-byte : (c d : Rgb) (i : ℕ) → i ≤ largest m → Below 256 c → Below 256 d → Below 256 (shade_rgb m c d i)
  unfolding shade_rgb
  shade-byte c d i h x y =
      let w : get_or m.weights i 0 ≤ 64 = shades.light i h in
      record { r = between-byte _ _ _ w x.r y.r; g = between-byte _ _ _ w x.g y.g; b = between-byte _ _ _ w x.b y.b }

  -- every colour of a palette has bytes for channels
  pub palette_byte : (ends : List Rgb) (p s i : ℕ) → s < 2 → i ≤ largest m →
      Stored m ends → Below 256 (palette_colour m ends p s i)
  unfolding palette_colour
  palette_byte ends p s i two h stored =
      shade-byte _ _ i h (end_byte ends p (2 * s) (stored (2 * s) (omega arith))) (end_byte ends p (2 * s + 1) (stored (2 * s + 1) (omega arith)))

-- a colour of both palettes as rows of numbers
module _ (m : Mode) (few : largest m < 8) (ends : List Rgb) (p s j : ℕ) (two : s < 2) (index : j ≤ largest m) where
  row-length : length (get_or (palettes m ends p) s []) ≡ 8
  unfolding palettes
  row-length =
      rw (get_or-each [] (λ (s : ℕ). written (palette_colour m ends p s) (suc (largest m)) (replicate 8 black)) 2 s two)
      (length-written (palette_colour m ends p s) (suc (largest m)) (replicate 8 black) few)

  two_rows : length (palettes m ends p) ≡ 2
  unfolding palettes
  two_rows = refl

  -- its number
  pub word-at : word_at (coloured (palettes m ends p)) s j ≡ pixel_word (palette_colour m ends p s j)
  unfolding coloured
  word-at =
      ap (λ (row : List Colour). (get_or row j (record { 0 = 0 })).0) (get_or-map [] [] (map colour) (palettes m ends p) s (rw two_rows two))
      ∙ ap (λ (c : Colour). c.0) (get_or-map (record { 0 = 0 }) black colour (get_or (palettes m ends p) s []) j (omega (arith, row-length)))
      ∙ ap pixel_word (palettes-at m ends p s j two index)

  -- which stands for it
  pub word-shown : Shades m → Stored m ends → pixel_of (word_at (coloured (palettes m ends p)) s j) ≡ palette_colour m ends p s j
  word-shown shades stored = ap pixel_of word-at ∙ word-pixel (palette_colour m ends p s j) (palette_byte m shades ends p s j two index stored)

-- the sum of interpolate_rgb in u16, and its high byte in u8
pub interpolated : (w a b : ℕ) → w ≤ 256 → a < 256 → b < 256 → ((256 - w) * a + w * b + 128 < 2 ^ 16) × (((256 - w) * a + w * b + 128) / 2 ^ 8 < 2 ^ 8)
interpolated w a b h ha hb =
    let x : (256 - w) * a ≤ (256 - w) * 255 = mul-le-mul_left (256 - w) (omega arith) in
    let y : w * b ≤ w * 255 = mul-le-mul_left w (omega arith) in
    (omega arith, omega arith)
