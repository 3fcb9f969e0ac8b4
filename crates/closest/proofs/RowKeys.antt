-- The search's numbers, made from both palettes, give the keys of the palettes' colours; the least of them tell the nearest indices.
use Prim.Native.Nat.{ℕ, ◌+◌, ◌*◌, ◌/◌, ◌%◌, ◌^◌, ◌≤◌, ◌<◌}
use native.Mathlib.Omega.{arith}
use mathlib.Core.Path.{◌≡◌, sym, ap, ap₂, ◌∙◌}
use mathlib.Core.List.{List, [], map}
use lib.Arith.{digits_div, digits_mod}
use lib.ListN.{get_or, length, length-map}
use Rattle.bptc.specs.declared.Rgb.{Rgb}
use Rattle.lists.specs.Bytes.{Bytes}
use Rattle.lists.specs.Digits.{bit}
use Rattle.bptc.specs.Mode.{Mode, largest}
use Rattle.bptc.specs.Internal.Colour.{black, colours_of, dist_sq}
use Rattle.bptc.specs.Internal.Shown.{Stored}
use Rattle.bptc.specs.Internal.Palette.{palette_colour, palettes, coloured, word_at}
use Rattle.bptc.specs.Palette.{nearest_by}
use Rattle.bptc.specs.Internal.Nearest.{nearest_rgb}
use Rattle.bptc.specs.Internal.Pixels.{pixel_of}
use Rattle.lists.proofs.Rows.{length-up_from, get_or-each, each_same, listed}
use Rattle.bptc.proofs.ColourBounds.{pixels-shown}
use Rattle.bptc.proofs.Modes.{Shades}
use Rattle.bptc.proofs.Shading.{palette_byte, word-shown}
use Rattle.bptc.specs.declared.Colour.{Colour}
use Rattle.keys.specs.Keys.{least_of4, sum_key, bias, key_at, pixel_key, Steps}
use Rattle.lists.specs.Rows.{up_from}
use Rattle.key_numbers.specs.Numbers.{flat_rows, numbers_of}
use Rattle.closest.specs.Found.{index_in, biased_in, least_keys}
use Rattle.keys.proofs.KeySums.{pixel-byte, key-sum, key_small, small_each}
use Rattle.key_numbers.proofs.Made.{made_range, made-key}
use Rattle.keys.proofs.FirstKey.{Least, least-key}

-- a colour of both palettes as rows
module _ (m : Mode) (shades : Shades m) (few : largest m < 8) (ends : List Rgb) (p : ℕ) (stored : Stored m ends) (s j : ℕ) (two : s < 2) (index : j ≤ largest m) where
  -- the colour that its number stands for
  pub colour-at : pixel_of (get_or (flat_rows (coloured (palettes m ends p))) (s * 8 + j) 0) ≡ palette_colour m ends p s j
  unfolding flat_rows
  colour-at =
      let l : j < 8 = omega arith in
      let rows : List (List Colour) = coloured (palettes m ends p) in
      ap pixel_of (get_or-each 0 (λ (k : ℕ). word_at rows (k / 8) (k % 8)) 16 (s * 8 + j) (omega arith) ∙ ap₂ (word_at rows) (digits_div s l) (digits_mod s l))
      ∙ word-shown m few ends p s j two index shades stored

-- the numbers made from them
pub numbers_made : (palettes rows : List (List Colour)) (numbers : List ℕ) → rows ≡ palettes →
    numbers ≡ numbers_of 8 16 (λ (k : ℕ). pixel_of (get_or (flat_rows rows) k 0)) (λ (k : ℕ). k % 8) →
    numbers ≡ numbers_of 8 16 (λ (k : ℕ). pixel_of (get_or (flat_rows palettes) k 0)) (λ (k : ℕ). k % 8)
numbers_made palettes rows numbers e f = f ∙ ap (λ (rows : List (List Colour)). numbers_of 8 16 (λ (k : ℕ). pixel_of (get_or (flat_rows rows) k 0)) (λ (k : ℕ). k % 8)) e

-- the numbers of a mode's palettes, and pixels
module _ (m : Mode) (shades : Shades m) (few : largest m < 8) (ends : List Rgb) (p : ℕ) (stored : Stored m ends) (numbers : List ℕ)
    (made : numbers ≡ numbers_of 8 16 (λ (k : ℕ). pixel_of (get_or (flat_rows (coloured (palettes m ends p))) k 0)) (λ (k : ℕ). k % 8))
    (px : List ℕ) (bytes : Bytes px) (mask : ℕ) where
  -- pixel i
  abbrev pixel : ℕ → Rgb
  pixel i = get_or (colours_of px) i black

  -- the key of pixel i and index j
  abbrev pub row_key : ℕ → ℕ → ℕ
  row_key = pixel_key 16 8 numbers px mask

  -- the colour at place k of both rows
  abbrev row_colour : ℕ → Rgb
  row_colour k = pixel_of (get_or (flat_rows (coloured (palettes m ends p))) k 0)

  key-colour : (c : Rgb) (s j : ℕ) → s < 2 → j ≤ largest m → key_at 16 numbers c (s * 8 + j) ≡ sum_key 8 c (palette_colour m ends p s j) j
  key-colour c s j two index =
      let l : j < 8 = omega arith in
      let k : s * 8 + j < 16 = omega arith in
      rw made (made-key 8 16 row_colour (λ (k : ℕ). k % 8) (s * 8 + j) k c ∙ ap₂ (sum_key 8 c) (colour-at m shades few ends p stored s j two index) (digits_mod s l))

  -- it is the raised distance times eight, and the index
  key_is : (i j : ℕ) → j ≤ largest m → row_key i j ≡ (dist_sq (pixel i) (palette_colour m ends p (bit mask i) j) + bias (pixel i)) * 8 + j
  unfolding pixel_key
  key_is i j index =
      let two : bit mask i < 2 = omega arith in
      key-colour (pixel i) (bit mask i) j two index
      ∙ key-sum 8 (pixel i) (palette_colour m ends p (bit mask i) j) j (pixels-shown px bytes i) (palette_byte m shades ends p (bit mask i) j two index stored)

  -- the numbers are in range
  pub in_range_lem : Steps 16 numbers
  in_range_lem = rw made (made_range 16 row_colour (λ (k : ℕ). k % 8) (λ k h. pixel-byte (get_or (flat_rows (coloured (palettes m ends p))) k 0)) (λ k. omega arith))

  -- a key is small
  key_below : (i j : ℕ) → j < 8 → row_key i j < 2 ^ 23
  unfolding pixel_key
  key_below i j h =
      let two : bit mask i < 2 = omega arith in
      key_small 16 numbers (pixel i) (bit mask i * 8 + j) in_range_lem (pixels-shown px bytes i) (omega arith)

  -- the least key of pixel i tells its nearest index and the distance
  best_is : (i t : ℕ) → Least (row_key i) (largest m) t → t ≡ biased_in m ends p mask (colours_of px) i * 8 + index_in m ends p mask (colours_of px) i
  unfolding nearest_rgb nearest_by
  best_is i t l =
      let d : ℕ → ℕ = λ (j : ℕ). dist_sq (pixel i) (palette_colour m ends p (bit mask i) j) in
      least-key d (bias (pixel i)) 8 (largest m) t few
      (record {
        below = λ j h. rw (← key_is i j h) (l.below j h);
        most = λ n h. l.most n (λ j k. rw (key_is i j k) (h j k));
      })

  keys_are : (best : List ℕ) → length best ≡ 16 → ((i : ℕ) → i < 16 → Least (row_key i) (largest m) (get_or best i 0)) → best ≡ least_keys m ends p mask (colours_of px)
  unfolding least_keys
  keys_are best sixteen least =
      sym (listed 0 best 16 sixteen) ∙ each_same 0 _ _ 16 (λ i h. best_is i (get_or best i 0) (least i h))

  -- the columns of the pixels' keys, of which the least is the least key, and the least of each pixel's
  module _ (cols : (ℕ → ℕ) → List ℕ) (law : (key : ℕ → ℕ) → Least key (largest m) (least_of4 (λ (c : ℕ). get_or (cols key) c 0)))
      (columns : List (List ℕ)) (out : columns ≡ map (λ (i : ℕ). cols (row_key i)) (up_from 0 16))
      (best : List ℕ) (told : best ≡ map (λ (i : ℕ). least_of4 (λ (c : ℕ). get_or (get_or columns i []) c 0)) (up_from 0 16)) where
    least_at : (i : ℕ) → i < 16 → Least (row_key i) (largest m) (least_of4 (λ (c : ℕ). get_or (get_or columns i []) c 0))
    least_at i h = rw (out, get_or-each [] (λ (i : ℕ). cols (row_key i)) 16 i h) (law (row_key i))

    -- they are the pixels' least keys
    pub keys_told : best ≡ least_keys m ends p mask (colours_of px)
    keys_told =
        keys_are best (rw told (simp (length-map, length-up_from)))
        (λ i h. rw (told, get_or-each 0 (λ (i : ℕ). least_of4 (λ (c : ℕ). get_or (get_or columns i []) c 0)) 16 i h) (least_at i h))

    -- and small
    pub keys_small : (i : ℕ) → get_or best i 0 < 2 ^ 23
    keys_small i =
        rw told
        (small_each (λ (i : ℕ). least_of4 (λ (c : ℕ). get_or (get_or columns i []) c 0)) 16 (2 ^ 23) (omega arith)
        (λ i h. omega (arith, (least_at i h).below 0 (omega arith), key_below i 0 (omega arith))) i)
