-- The bytes of colours, written pixel by pixel.
use Prim.Native.Nat.{ℕ, ◌+◌, ◌*◌, ◌<◌}
use native.Mathlib.Omega.{arith}
use mathlib.Core.Path.{◌≡◌, refl, sym, ap, ◌∙◌}
use mathlib.Core.List.{List, map}
use lib.ListN.{get_or, length, set}
use Rattle.lists.specs.Rows.{up_from, written}
use Rattle.lists.proofs.Rows.{each_same, written_next, written_all, listed}
use Rattle.bptc.specs.declared.Rgb.{Rgb}
use Rattle.bptc.specs.Internal.Colour.{rgb_at, black, colours_of, bytes_of}
use Rattle.bptc.proofs.ColourBounds.{colour-at, colours-length, colours-bytes, bytes-length}

-- byte j of colours
abbrev pub byte_at : List Rgb → ℕ → ℕ
byte_at cs j = get_or (bytes_of cs) j 0

-- the pixel in the bytes of colours
pub pixel_in_lem : (cs : List Rgb) (i : ℕ) → i < length cs → get_or cs i black ≡ rgb_at (bytes_of cs) i
pixel_in_lem cs i h = rw colours-bytes at (colour-at (bytes_of cs) i (omega (arith, bytes-length cs)))

-- sixteen pixels by their bytes are the colours of the bytes
pub pixels_in : (px : List ℕ) → length px ≡ 48 → map (rgb_at px) (up_from 0 16) ≡ colours_of px
pixels_in px long =
    each_same black (rgb_at px) (λ (i : ℕ). get_or (colours_of px) i black) 16 (λ i h. sym (colour-at px i (omega arith)))
    ∙ listed black (colours_of px) 16 (omega (arith, colours-length px))

module _ (cs : List Rgb) (xs : List ℕ) where
  put : (k x : ℕ) → k < length xs → x ≡ byte_at cs k → set (written (byte_at cs) k xs) k x ≡ written (byte_at cs) (k + 1) xs
  put k x h e = rw e (written_next 0 (byte_at cs) xs k h)

  -- one pixel more
  pub written-pixel : (i : ℕ) → i < length cs → i * 3 + 2 < length xs →
      let c : Rgb = get_or cs i black in
      set (set (set (written (byte_at cs) (i * 3) xs) (i * 3) c.r) (i * 3 + 1) c.g) (i * 3 + 2) c.b ≡ written (byte_at cs) ((i + 1) * 3) xs
  written-pixel i h l =
      let two : i * 3 + 1 + 1 ≡ i * 3 + 2 = omega arith in
      let three : (i + 1) * 3 ≡ i * 3 + 2 + 1 = omega arith in
      rw (
        three,
        put (i * 3) _ (omega arith) (ap (λ (c : Rgb). c.r) (pixel_in_lem cs i h)),
        put (i * 3 + 1) _ (omega arith) (ap (λ (c : Rgb). c.g) (pixel_in_lem cs i h)),
        two,
        put (i * 3 + 2) _ (omega arith) (ap (λ (c : Rgb). c.b) (pixel_in_lem cs i h)),
      )

  -- after the last
  pub written-pixels : length xs ≡ 3 * length cs → written (byte_at cs) (length xs) xs ≡ bytes_of cs
  written-pixels e = written_all 0 (byte_at cs) xs (length xs) refl ∙ listed 0 (bytes_of cs) (length xs) (bytes-length cs ∙ sym e)
