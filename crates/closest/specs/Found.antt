-- What the search finds at given p-bits, each pixel in the palette of its own subset.
use Rattle.std.specs.Prelude.{ℕ, ◌+◌, ◌*◌, List, map, eqb, get_or, replicate}
use Rattle.bptc.specs.declared.Rgb.{Rgb}
use Rattle.lists.specs.Tests.{pick}
use Rattle.lists.specs.Rows.{up_from, over_pixels}
use Rattle.lists.specs.Digits.{bit}
use Rattle.bptc.specs.Mode.{Mode}
use Rattle.bptc.specs.Internal.Colour.{black, dist_sq}
use Rattle.bptc.specs.Internal.Palette.{palette_colour}
use Rattle.bptc.specs.Internal.Nearest.{nearest_rgb}
use Rattle.lists.specs.Bits.{join}
use Rattle.closest.specs.declared.Found.{Found}
use Rattle.keys.specs.Keys.{bias}

-- the nearest index of pixel i in the palette of its subset, by a partition's mask
abbrev pub index_in : Mode → List Rgb → ℕ → ℕ → List Rgb → ℕ → ℕ
index_in m ends p mask cs i = nearest_rgb m ends p (bit mask i) (get_or cs i black)

-- its distance from the colour at that index
abbrev pub distance_in : Mode → List Rgb → ℕ → ℕ → List Rgb → ℕ → ℕ
distance_in m ends p mask cs i = dist_sq (get_or cs i black) (palette_colour m ends p (bit mask i) (index_in m ends p mask cs i))

-- the same, raised by what the pixel alone gives
abbrev pub biased_in : Mode → List Rgb → ℕ → ℕ → List Rgb → ℕ → ℕ
biased_in m ends p mask cs i = distance_in m ends p mask cs i + bias (get_or cs i black)

-- the least keys of the pixels: the raised distance times eight, and the index
unfoldable pub least_keys : Mode → List Rgb → ℕ → ℕ → List Rgb → List ℕ
least_keys m ends p mask cs = map (λ (i : ℕ). biased_in m ends p mask cs i * 8 + index_in m ends p mask cs i) (up_from 0 16)

-- the indices as one number, the first lowest
unfoldable pub indexes_in : Mode → List Rgb → ℕ → ℕ → List Rgb → ℕ
indexes_in m ends p mask cs = join (replicate 16 m.index_bits) (map (index_in m ends p mask cs) (up_from 0 16))

-- a figure summed over the pixels of subset 1
abbrev pub over_second : ℕ → (ℕ → ℕ) → ℕ
over_second mask f = over_pixels (λ (i : ℕ). pick (eqb (bit mask i) 1) (f i) 0)

-- what is found: the indices, and the raised distances of all pixels and of those of subset 1
unfoldable pub found_at : Mode → List Rgb → ℕ → ℕ → List Rgb → Found
found_at m ends p mask cs =
    record {
      indexes = indexes_in m ends p mask cs;
      all = over_pixels (biased_in m ends p mask cs);
      second = over_second mask (biased_in m ends p mask cs);
    }
