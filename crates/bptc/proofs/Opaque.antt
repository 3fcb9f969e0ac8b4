-- Colours of three channels are the chapter's with an alpha that is not stored and shows 255: pixels, endpoints, palettes and distances.
use Prim.Native.Nat.{ℕ, zero, suc, ◌+◌, ◌-◌, ◌*◌, ◌/◌, ◌≤◌, ◌<◌}
use native.Mathlib.Omega.{arith}
use mathlib.Core.Path.{◌≡◌, refl, sym, ap, ap₂, ◌∙◌}
use mathlib.Core.List.{List, [], ◌∷◌, ◌++◌, map}
use lib.ListN.{get_or, length, take}
use Rattle.lists.specs.Rows.{up_from}
use Rattle.lists.specs.Parts.{joined}
use Rattle.lists.proofs.Rows.{get_or-map, get_or-each, each-suc, listed}
use Rattle.lists.proofs.Tables.{two}
use Rattle.lists.proofs.Least.{least-same}
use Rattle.bptc.specs.declared.Rgb.{Rgb}
use Rattle.bptc.specs.Mode.{Mode, mode1, mode3, IsMode, largest, weight}
use Rattle.bptc.specs.Colour.{Rgba, clear, channel, channels, with_alpha, without_alpha, pixel_in, pixels_of, pixel_bytes, squared_distance}
use Rattle.bptc.specs.Shown.{own, own_bit, shown_by, end_by, end_shown}
use Rattle.bptc.specs.Palette.{between, shade, palette_of, end_of, palette_at, nearest_by, nearest}
use Rattle.bptc.specs.Internal.Colour.{black, each, colours_of, bytes_of, dist_sq}
use Rattle.bptc.specs.Internal.Shown.{p_bit, p_shown, end_shown_by, end_rgb}
use Rattle.bptc.specs.Internal.Palette.{shade_rgb, palette_colour}
use Rattle.bptc.specs.Internal.Nearest.{nearest_rgb}
use Rattle.bptc.proofs.Modes.{by_mode, shades_of}
use Rattle.bptc.proofs.ColourBounds.{colour-at}

-- a colour of three channels that is shown
abbrev pub opaque : Rgb → Rgba
opaque c = with_alpha 255 c

-- a pixel of 48 bytes
pub pixel_opaque : (px : List ℕ) → length px ≡ 48 → (i : ℕ) → i < 16 → pixel_in 3 px i ≡ opaque (get_or (colours_of px) i black)
pixel_opaque px long i h =
    let e : i * 3 + 0 ≡ i * 3 = omega arith in
    rw (e, colour-at px i (omega arith)) refl

-- in the list of all
pub pixels_opaque : (px : List ℕ) → length px ≡ 48 → (i : ℕ) → i < 16 → get_or (pixels_of 3 px) i clear ≡ opaque (get_or (colours_of px) i black)
unfolding pixels_of
pixels_opaque px long i h = get_or-each clear (pixel_in 3 px) 16 i h ∙ pixel_opaque px long i h

-- one colour more
bytes-ended : (xs : List Rgb) (c : Rgb) → bytes_of (xs ++ (c ∷ [])) ≡ bytes_of xs ++ (c.r ∷ (c.g ∷ (c.b ∷ [])))
unfolding bytes_of
bytes-ended [] c = refl
bytes-ended (x ∷ xs) c = ap (λ (l : List ℕ). x.r ∷ (x.g ∷ (x.b ∷ l))) (bytes-ended xs c)

-- the bytes of sixteen colours
pub bytes_opaque : (cs : List Rgb) → length cs ≡ 16 → pixel_bytes 3 (map opaque cs) ≡ bytes_of cs
unfolding pixel_bytes joined bytes_of
bytes_opaque cs sixteen = front 16 (omega arith) ∙ ap bytes_of (listed black cs 16 sixteen)
  where
    front : (n : ℕ) → n ≤ 16 → joined (λ (i : ℕ). take 3 (channels (get_or (map opaque cs) i clear))) n ≡ bytes_of (map (λ (i : ℕ). get_or cs i black) (up_from 0 n))
    front zero h = refl
    front (suc n) h =
        ap₂ (λ (xs : List ℕ) (c : Rgba). xs ++ take 3 (channels c)) (front n (omega arith)) (get_or-map clear black opaque cs n (omega arith))
        ∙ sym (bytes-ended (map (λ (i : ℕ). get_or cs i black) (up_from 0 n)) (get_or cs n black))
        ∙ ap bytes_of (sym (each-suc (λ (i : ℕ). get_or cs i black) n))

-- the distance of two
pub dist_opaque : (a b : ℕ) (c d : Rgb) → squared_distance (with_alpha a c) (with_alpha b d) ≡ dist_sq c d
unfolding squared_distance dist_sq
dist_opaque a b c d = refl

-- an endpoint, without the alpha that it does not store
pub end_alpha : (ends : List Rgb) (k : ℕ) → get_or (without_alpha ends) k clear ≡ with_alpha 0 (get_or ends k black)
unfolding without_alpha
end_alpha [] k = refl
end_alpha (e ∷ es) zero = refl
end_alpha (e ∷ es) (suc k) = end_alpha es k

-- the p-bit of an endpoint is that of its subset's own
pub own_p_bit : (m : Mode) → IsMode m → (p s : ℕ) → s < 2 → (h : ℕ) → h < 2 → own_bit m.own_bits (own m p s) h ≡ p_bit m p (2 * s + h)
unfolding own own_bit
own_p_bit = by_mode (λ (m : Mode). (p s : ℕ) → s < 2 → (h : ℕ) → h < 2 → own_bit m.own_bits (own m p s) h ≡ p_bit m p (2 * s + h))
    (λ p. two (λ (s : ℕ). (h : ℕ) → h < 2 → own_bit 1 (own mode1 p s) h ≡ p_bit mode1 p (2 * s + h))
    (two (λ (h : ℕ). own_bit 1 (own mode1 p 0) h ≡ p_bit mode1 p (2 * 0 + h)) (omega arith) (omega arith))
    (two (λ (h : ℕ). own_bit 1 (own mode1 p 1) h ≡ p_bit mode1 p (2 * 1 + h)) (omega arith) (omega arith)))
    (λ p. two (λ (s : ℕ). (h : ℕ) → h < 2 → own_bit 2 (own mode3 p s) h ≡ p_bit mode3 p (2 * s + h))
    (two (λ (h : ℕ). own_bit 2 (own mode3 p 0) h ≡ p_bit mode3 p (2 * 0 + h)) (omega arith) (omega arith))
    (two (λ (h : ℕ). own_bit 2 (own mode3 p 1) h ≡ p_bit mode3 p (2 * 1 + h)) (omega arith) (omega arith)))

-- what an endpoint shows
pub end_opaque : (m : Mode) → IsMode m → (p : ℕ) (c : Rgb) → end_by m p (with_alpha 0 c) ≡ opaque (each (p_shown m.channel_bits p) c)
unfolding end_by channel shown_by p_shown
end_opaque = by_mode (λ (m : Mode). (p : ℕ) (c : Rgb) → end_by m p (with_alpha 0 c) ≡ opaque (each (p_shown m.channel_bits p) c)) (λ p c. refl) (λ p c. refl)

-- with its subset's own
pub end_own : (m : Mode) → IsMode m → (ends : List Rgb) (p s h : ℕ) → s < 2 → h < 2 →
    end_shown m (own m p s) h (end_of (without_alpha ends) s h) ≡ opaque (end_rgb m ends p (2 * s + h))
unfolding end_rgb end_shown_by
end_own m is ends p s h two low = rw (end_alpha ends (2 * s + h), own_p_bit m is p s two h low) (end_opaque m is (p_bit m p (2 * s + h)) (get_or ends (2 * s + h) black))

-- between two colours that are opaque
pub shade_opaque : (m : Mode) (a b : Rgb) (i : ℕ) → weight m i ≤ 64 → shade m (opaque a) (opaque b) i ≡ opaque (shade_rgb m a b i)
unfolding shade shade_rgb between
shade_opaque m a b i h =
    let e : ((64 - weight m i) * 255 + weight m i * 255 + 32) / 64 ≡ 255 = omega arith in
    ap (λ (x : ℕ). with_alpha x (shade_rgb m a b i)) e

module _ (m : Mode) (is : IsMode m) (ends : List Rgb) (p s : ℕ) (two : s < 2) where
  -- a palette of opaque colours
  pub palette_ends : (i : ℕ) → palette_at m (without_alpha ends) p s i ≡ shade m (opaque (end_rgb m ends p (2 * s))) (opaque (end_rgb m ends p (2 * s + 1))) i
  unfolding palette_of
  palette_ends i =
      let e : 2 * s + 0 ≡ 2 * s = omega arith in
      ap₂ (λ (a b : Rgba). shade m a b i)
      (end_own m is ends p s 0 two (omega arith) ∙ ap (λ (k : ℕ). opaque (end_rgb m ends p k)) e)
      (end_own m is ends p s 1 two (omega arith))

  -- in three channels
  pub palette_opaque : (i : ℕ) → i ≤ largest m → palette_at m (without_alpha ends) p s i ≡ opaque (palette_colour m ends p s i)
  unfolding palette_colour
  palette_opaque i h = palette_ends i ∙ shade_opaque m _ _ i ((shades_of m is).light i h)

  -- the distance of a colour from it
  pub apart_opaque : (a : ℕ) (c : Rgb) (i : ℕ) → squared_distance (with_alpha a c) (palette_at m (without_alpha ends) p s i) ≡ dist_sq c (palette_colour m ends p s i)
  unfolding squared_distance dist_sq shade palette_colour shade_rgb
  apart_opaque a c i = ap (squared_distance (with_alpha a c)) (palette_ends i)

  -- the nearest index
  pub nearest_opaque : (c : Rgb) → nearest squared_distance m (end_of (without_alpha ends) s 0) (end_of (without_alpha ends) s 1) (own m p s) (opaque c) ≡ nearest_rgb m ends p s c
  unfolding nearest_by nearest_rgb
  nearest_opaque c = least-same _ _ (up_from 1 (largest m)) 0 (λ i h. apart_opaque 255 c i)
