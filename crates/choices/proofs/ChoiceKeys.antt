-- The numbers of the four choices of mode 3's p-bits give the keys of their palettes' colours, a choice in each column.
use Prim.Native.Nat.{ℕ, zero, suc, ◌+◌, ◌-◌, ◌*◌, ◌/◌, ◌%◌, ◌^◌, ◌≤◌, ◌<◌}
use native.Mathlib.Omega.{arith}
use mathlib.Core.Path.{◌≡◌, refl, ap, ap₂, ◌∙◌}
use mathlib.Core.Bool.{Bool, true, false}
use mathlib.Core.List.{List, [], ◌∷◌, map}
use lib.Arith.{digits_div, digits_mod}
use lib.Dec.{ltb}
use lib.ListN.{get_or, replicate}
use borrow.Author.Tests.{ltb-true, ltb-false}
use Rattle.bptc.specs.declared.Rgb.{Rgb}
use Rattle.lists.specs.Tests.{pick}
use Rattle.lists.specs.Bytes.{Bytes}
use Rattle.lists.specs.Rows.{up_from, over_pixels}
use Rattle.lists.specs.Digits.{bit}
use Rattle.bptc.specs.Mode.{mode3, largest}
use Rattle.bptc.specs.Internal.Colour.{black, Below, colours_of, dist_sq}
use Rattle.bptc.specs.Internal.Shown.{Stored}
use Rattle.bptc.specs.Internal.Palette.{palette_colour, palettes, coloured}
use Rattle.bptc.specs.Palette.{nearest_by}
use Rattle.bptc.specs.Internal.Nearest.{nearest_rgb}
use Rattle.bptc.specs.Internal.Pixels.{pixel_word, pixel_of}
use Rattle.lists.proofs.Rows.{get_or-each, each_same}
use Rattle.bptc.proofs.ColourBounds.{pixels-shown}
use Rattle.bptc.proofs.Modes.{shades3}
use Rattle.bptc.proofs.Shading.{palette_byte, word-at}
use Rattle.bptc.proofs.ColourBounds.{word-pixel}
use Rattle.lists.specs.Bits.{join}
use Rattle.bptc.specs.declared.Colour.{Colour}
use Rattle.keys.specs.Keys.{sum_key, bias, key_at, pixel_key, least_of4, Steps}
use Rattle.key_numbers.specs.Numbers.{row_word, column_words, joined_rows, words_of, flat_columns, numbers_of}
use Rattle.choices.specs.Choices.{column_bits, choice_colour}
use Rattle.closest.specs.Found.{index_in, biased_in, indexes_in, over_second}
use Rattle.keys.proofs.KeySums.{key-sum, key_small}
use Rattle.key_numbers.proofs.Made.{made_range, made-key, numbers_same}
use Rattle.keys.proofs.FirstKey.{Least, least_of_4, least-key}
use Rattle.choice_columns.specs.Columns.{columns_of4, column_at}
use Rattle.choice_columns.proofs.FourColumns.{column4}
use Rattle.closest.proofs.Telling.{tell_indexes, tell_all, tell_second}

-- the largest index
few3 : largest mode3 < 8
unfolding largest
few3 = omega arith

index3 : (j : ℕ) → j < 4 → j ≤ largest mode3
unfolding largest
index3 j h = omega arith

module _ (ends : List Rgb) (stored : Stored mode3 ends) where
  -- both palettes of a choice
  abbrev rows_at : ℕ → List (List Colour)
  rows_at p = coloured (palettes mode3 ends p)

  -- the words of subset s, a choice in each column
  abbrev choice_words : ℕ → List ℕ
  choice_words = words_of (rows_at 0b0000) (rows_at 0b1010) (rows_at 0b0101) (rows_at 0b1111)

  words-at : (s k : ℕ) → s < 2 → k < 16 → get_or (choice_words s) k 0 ≡ pixel_word (palette_colour mode3 ends (column_bits (k % 4)) s (k / 4))
  unfolding column_words column_bits
  words-at s k two h =
      get_or-each 0 (column_words (get_or (rows_at 0b0000) s []) (get_or (rows_at 0b1010) s []) (get_or (rows_at 0b0101) s []) (get_or (rows_at 0b1111) s [])) 16 k h
      ∙ go (k % 4) (omega arith) (k / 4) (omega arith)
    where
      go : (c : ℕ) → c < 4 → (j : ℕ) → j < 4 →
          row_word (get_or (get_or (rows_at 0b0000) s [] ∷ (get_or (rows_at 0b1010) s [] ∷ (get_or (rows_at 0b0101) s [] ∷ (get_or (rows_at 0b1111) s [] ∷ [])))) c []) j
          ≡ pixel_word (palette_colour mode3 ends (get_or (0b0000 ∷ (0b1010 ∷ (0b0101 ∷ (0b1111 ∷ [])))) c 0) s j)
      go zero l j i = word-at mode3 few3 ends 0b0000 s j two (index3 j i)
      go (suc zero) l j i = word-at mode3 few3 ends 0b1010 s j two (index3 j i)
      go (suc (suc zero)) l j i = word-at mode3 few3 ends 0b0101 s j two (index3 j i)
      go (suc (suc (suc zero))) l j i = word-at mode3 few3 ends 0b1111 s j two (index3 j i)
      go (suc (suc (suc (suc c)))) l j i = absurd (omega arith)

  choice_byte : (k : ℕ) → k < 32 → Below 256 (choice_colour ends k)
  unfolding choice_colour
  choice_byte k h = palette_byte mode3 shades3 ends (column_bits (k % 4)) (k / 16) (k / 4 % 4) (omega arith) (index3 (k / 4 % 4) (omega arith)) stored

  -- the colour at place k
  choice_colour_lem : (k : ℕ) → k < 32 → pixel_of (get_or (flat_columns (rows_at 0b0000) (rows_at 0b1010) (rows_at 0b0101) (rows_at 0b1111)) k 0) ≡ choice_colour ends k
  unfolding flat_columns joined_rows choice_colour
  choice_colour_lem k h =
      ap pixel_of (get_or-each 0 (joined_rows (choice_words 0) (choice_words 1)) 32 k h ∙ go (ltb k 16) refl)
      ∙ word-pixel (choice_colour ends k) (choice_byte k h)
    where
      go : (t : Bool) → ltb k 16 ≡ t → pick t (get_or (choice_words 0) k 0) (get_or (choice_words 1) (k - 16) 0) ≡ pixel_word (palette_colour mode3 ends (column_bits (k % 4)) (k / 16) (k / 4 % 4))
      go true t =
          let l : k < 16 = ltb-true k 16 t in
          let s : 0 ≡ k / 16 = omega arith in
          let j : k / 4 ≡ k / 4 % 4 = omega arith in
          words-at 0 k (omega arith) l ∙ ap₂ (λ (s j : ℕ). pixel_word (palette_colour mode3 ends (column_bits (k % 4)) s j)) s j
      go false t =
          let l : k - 16 < 16 = omega (arith, ltb-false k 16 t) in
          let s : 1 ≡ k / 16 = omega (arith, ltb-false k 16 t) in
          let j : (k - 16) / 4 ≡ k / 4 % 4 = omega (arith, ltb-false k 16 t) in
          let c : (k - 16) % 4 ≡ k % 4 = omega (arith, ltb-false k 16 t) in
          words-at 1 (k - 16) (omega arith) l
          ∙ ap (λ (c : ℕ). pixel_word (palette_colour mode3 ends (column_bits c) 1 ((k - 16) / 4))) c
          ∙ ap₂ (λ (s j : ℕ). pixel_word (palette_colour mode3 ends (column_bits (k % 4)) s j)) s j

  -- the numbers of the four choices' rows
  pub choice_rows : (a b c d : List (List Colour)) → a ≡ rows_at 0b0000 → b ≡ rows_at 0b1010 → c ≡ rows_at 0b0101 → d ≡ rows_at 0b1111 →
      numbers_of 8 32 (λ (k : ℕ). pixel_of (get_or (flat_columns a b c d) k 0)) (λ (k : ℕ). k / 4 % 4) ≡ numbers_of 8 32 (choice_colour ends) (λ (k : ℕ). k / 4 % 4)
  choice_rows a b c d e f g h =
      numbers_same 8 32 (λ (k : ℕ). pixel_of (get_or (flat_columns a b c d) k 0)) (choice_colour ends) (λ (k : ℕ). k / 4 % 4) (λ k l. rw (e, f, g, h) (choice_colour_lem k l))

  -- the numbers of the choices, and pixels
  module _ (numbers : List ℕ) (made : numbers ≡ numbers_of 8 32 (choice_colour ends) (λ (k : ℕ). k / 4 % 4)) (px : List ℕ) (bytes : Bytes px) (mask : ℕ) where
    -- they are in range
    pub choices_range : Steps 32 numbers
    choices_range = rw made (made_range 32 (choice_colour ends) (λ (k : ℕ). k / 4 % 4) choice_byte (λ k. omega arith))

    -- pixel i
    abbrev pixel : ℕ → Rgb
    pixel i = get_or (colours_of px) i black

    -- the key of pixel i and an entry of its subset
    abbrev pub choice_key : ℕ → ℕ → ℕ
    choice_key = pixel_key 32 16 numbers px mask

    -- a key is small
    pub choice_below : (i j : ℕ) → j < 16 → choice_key i j < 2 ^ 23
    unfolding pixel_key
    choice_below i j h =
        let two : bit mask i < 2 = omega arith in
        key_small 32 numbers (pixel i) (bit mask i * 16 + j) choices_range (pixels-shown px bytes i) (omega arith)

    entry : (p : Rgb) (s c j : ℕ) → s < 2 → c < 4 → j < 4 → key_at 32 numbers p (s * 16 + (c + j * 4)) ≡ sum_key 8 p (palette_colour mode3 ends (column_bits c) s j) j
    unfolding choice_colour
    entry p s c j two four index =
        let k : ℕ = s * 16 + (c + j * 4) in
        let l : k < 32 = omega arith in
        let e : s * 16 + (c + j * 4) ≡ (s * 4 + j) * 4 + c = omega arith in
        let m : c + j * 4 < 16 = omega arith in
        let x : k % 4 ≡ c = rw e (digits_mod (s * 4 + j) four) in
        let y : k / 16 ≡ s = digits_div s m in
        let z : k / 4 % 4 ≡ j = rw e (ap (λ (n : ℕ). n % 4) (digits_div (s * 4 + j) four) ∙ digits_mod s index) in
        rw made (made-key 8 32 (choice_colour ends) (λ (k : ℕ). k / 4 % 4) k l p ∙ rw (x, y, z))

    -- the columns of the pixels' keys
    module _ (columns : List (List ℕ)) (out : columns ≡ map (λ (i : ℕ). columns_of4 (choice_key i)) (up_from 0 16)) where
      -- the least key of a column tells the nearest index at its p-bits, and the distance
      column_is : (c i : ℕ) → i < 16 → c < 4 →
          column_at columns c i ≡ biased_in mode3 ends (column_bits c) mask (colours_of px) i * 8 + index_in mode3 ends (column_bits c) mask (colours_of px) i
      unfolding nearest_rgb nearest_by largest pixel_key
      column_is c i h four =
          let two : bit mask i < 2 = omega arith in
          let d : ℕ → ℕ = λ (j : ℕ). dist_sq (pixel i) (palette_colour mode3 ends (column_bits c) (bit mask i) j) in
          let key : (j : ℕ) → j ≤ 3 → choice_key i (c + j * 4) ≡ (d j + bias (pixel i)) * 8 + j =
          λ j l.
          entry (pixel i) (bit mask i) c j two four (omega arith)
          ∙ key-sum 8 (pixel i) (palette_colour mode3 ends (column_bits c) (bit mask i) j) j (pixels-shown px bytes i)
          (palette_byte mode3 shades3 ends (column_bits c) (bit mask i) j two (omega arith) stored) in
          let l : Least (λ (j : ℕ). choice_key i (c + j * 4)) 3 (least_of4 (λ (j : ℕ). choice_key i (c + j * 4))) = least_of_4 (λ (j : ℕ). choice_key i (c + j * 4)) in
          column4 choice_key columns out i c h four
          ∙ least-key d (bias (pixel i)) 8 3 _ (omega arith)
          (record {
            below = λ j k. rw (← key j k) (l.below j k);
            most = λ n k. l.most n (λ j m. rw (key j m) (k j m));
          })

      -- so the columns' sums and words are those of the four choices: of all pixels
      pub columns_all : map (λ (c : ℕ). over_pixels (λ (i : ℕ). column_at columns c i / 8)) (up_from 0 4) ≡ map (λ (c : ℕ). over_pixels (biased_in mode3 ends (column_bits c) mask (colours_of px))) (up_from 0 4)
      columns_all = each_same 0 _ _ 4 (λ c h. tell_all mode3 few3 ends (column_bits c) mask (colours_of px) (column_at columns c) (λ i l. column_is c i l h))

      -- of those of subset 1
      pub columns_second : map (λ (c : ℕ). over_second mask (λ (i : ℕ). column_at columns c i / 8)) (up_from 0 4) ≡ map (λ (c : ℕ). over_second mask (biased_in mode3 ends (column_bits c) mask (colours_of px))) (up_from 0 4)
      columns_second = each_same 0 _ _ 4 (λ c h. tell_second mode3 few3 ends (column_bits c) mask (colours_of px) (column_at columns c) (λ i l. column_is c i l h))

      -- and the indices
      pub columns_words : map (λ (c : ℕ). join (replicate 16 2) (map (λ (i : ℕ). column_at columns c i % 4) (up_from 0 16))) (up_from 0 4) ≡ map (λ (c : ℕ). indexes_in mode3 ends (column_bits c) mask (colours_of px)) (up_from 0 4)
      unfolding largest
      columns_words =
          each_same 0 _ _ 4
          (λ c h. tell_indexes mode3 few3 ends (column_bits c) mask (colours_of px) (column_at columns c) (λ i l. column_is c i l h) 4 (λ x n l. omega arith))
