-- The colours of a subset's palette in three channels, and the rows that the code has of them.
use Rattle.std.specs.Prelude.{ℕ, suc, ◌+◌, ◌-◌, ◌*◌, ◌/◌, List, [], map, get_or, replicate}
use Rattle.lists.specs.Rows.{up_from, written}
use Rattle.bptc.specs.declared.Rgb.{Rgb}
use Rattle.bptc.specs.declared.Colour.{Colour}
use Rattle.bptc.specs.Mode.{Mode, weight, largest}
use Rattle.bptc.specs.Palette.{between}
use Rattle.bptc.specs.Internal.Colour.{black, both}
use Rattle.bptc.specs.Internal.Shown.{end_rgb}
use Rattle.bptc.specs.Internal.Pixels.{pixel_word}

-- interpolate_rgb's form of the chapter's interpolation, at a weight in parts of 256
unfoldable pub blend : ℕ → ℕ → ℕ → ℕ
blend w a b = ((256 - w) * a + w * b + 128) / 256

-- the colour at index i between two that are shown
unfoldable pub shade_rgb : Mode → Rgb → Rgb → ℕ → Rgb
shade_rgb m a b i = both (between (weight m i)) a b

-- the colour at index i of subset s, at given endpoints and p-bits
unfoldable pub palette_colour : Mode → List Rgb → ℕ → ℕ → ℕ → Rgb
palette_colour m ends p s i = shade_rgb m (end_rgb m ends p (2 * s)) (end_rgb m ends p (2 * s + 1)) i

-- the palette between two colours that are shown, in the order of the indices
unfoldable pub row : Mode → Rgb → Rgb → List Rgb
row m a b = map (shade_rgb m a b) (up_from 0 (suc (largest m)))

-- a mode's weights in parts of 256, eight of them: 0 past its largest index
abbrev pub row_weights : Mode → List ℕ
row_weights m = map (λ (i : ℕ). 4 * weight m i) (up_from 0 8)

-- the first n colours by weights in parts of 256, in a row of eight, black after them
unfoldable pub blended_row : List ℕ → ℕ → Rgb → Rgb → List Rgb
blended_row weights n a b = written (λ (i : ℕ). both (blend (get_or weights i 0)) a b) n (replicate 8 black)

-- a row for each two of four colours that are shown
unfoldable pub blended_rows : List ℕ → ℕ → List Rgb → List (List Rgb)
blended_rows weights n e = map (λ (s : ℕ). blended_row weights n (get_or e (2 * s) black) (get_or e (2 * s + 1) black)) (up_from 0 2)

-- both palettes of a block, a row of eight for each subset, black past the mode's largest index
unfoldable pub palettes : Mode → List Rgb → ℕ → List (List Rgb)
palettes m ends p = map (λ (s : ℕ). written (palette_colour m ends p s) (suc (largest m)) (replicate 8 black)) (up_from 0 2)

-- a colour as one number, as the rows of the code have it
abbrev pub colour : Rgb → Colour
colour c = record { 0 = pixel_word c }

-- both rows so
unfoldable pub coloured : List (List Rgb) → List (List Colour)
coloured rows = map (map colour) rows

-- the number of colour j of row s
abbrev pub word_at : List (List Colour) → ℕ → ℕ → ℕ
word_at rows s j = (get_or (get_or rows s []) j (record { 0 = 0 })).0
