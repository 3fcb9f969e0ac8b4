-- What is found, in plain terms: the indices of the nearest colours, and their distances in sum.
use Rattle.std.specs.Prelude.{ℕ, ◌+◌, ◌≤◌, ◌<◌, ◌≡◌, List, get_or, replicate}
use Rattle.lists.specs.Rows.{over_pixels}
use Rattle.lists.specs.Digits.{bit}
use Rattle.lists.specs.Bits.{split}
use Rattle.bptc.specs.declared.Rgb.{Rgb}
use Rattle.bptc.specs.Mode.{Mode, largest}
use Rattle.bptc.specs.Internal.Colour.{black, dist_sq}
use Rattle.bptc.specs.Internal.Palette.{palette_colour}
use Rattle.closest.specs.declared.Found.{Found}
use Rattle.keys.specs.Keys.{bias}
use Rattle.closest.specs.Found.{over_second}
use Rattle.closest.specs.Pick.{bias_all}

-- the index of pixel i: digit i of the number that holds them all
abbrev pub index_at : Mode → Found → ℕ → ℕ
index_at m found i = get_or (split (replicate 16 m.index_bits) found.indexes) i 0

-- the distance of pixel i from colour j of its own subset's palette
abbrev pub distance_at : Mode → List Rgb → ℕ → ℕ → List Rgb → ℕ → ℕ → ℕ
distance_at m ends p mask cs i j = dist_sq (get_or cs i black) (palette_colour m ends p (bit mask i) j)

-- each pixel has the lowest index of least distance, and the sums are those of the distances, raised
pub record FindsNearest (m : Mode) (ends : List Rgb) (p mask : ℕ) (cs : List Rgb) (found : Found) : Type 0 where
  pub within : (i : ℕ) → i < 16 → index_at m found i ≤ largest m
  pub least : (i j : ℕ) → i < 16 → j ≤ largest m → distance_at m ends p mask cs i (index_at m found i) ≤ distance_at m ends p mask cs i j
  pub first : (i j : ℕ) → i < 16 → j < index_at m found i → distance_at m ends p mask cs i (index_at m found i) < distance_at m ends p mask cs i j
  pub all : found.all ≡ over_pixels (λ (i : ℕ). distance_at m ends p mask cs i (index_at m found i)) + bias_all cs
  pub second : found.second ≡ over_second mask (λ (i : ℕ). distance_at m ends p mask cs i (index_at m found i)) + over_second mask (λ (i : ℕ). bias (get_or cs i black))
