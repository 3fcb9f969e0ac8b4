-- What finishing finds, in plain terms: at the p-bits that it gives, the indices of the nearest colours, and their distances in sum.
use Rattle.std.specs.Prelude.{ℕ, ◌≤◌, ◌<◌, ◌≡◌, List, get_or, replicate}
use Rattle.lists.specs.Rows.{over_pixels}
use Rattle.lists.specs.Bits.{split}
use Rattle.bptc.specs.declared.Rgb.{Rgb}
use Rattle.bptc.specs.Mode.{Mode, largest}
use Rattle.bptc.specs.Internal.Masks.{mask_of}
use Rattle.closest.specs.Nearest.{distance_at}
use Rattle.finishing.specs.declared.Indices.{Indices}

-- the index of pixel i: digit i of the number that holds them all
abbrev pub given_index : Mode → Indices → ℕ → ℕ
given_index m given i = get_or (split (replicate 16 m.index_bits) given.indexes) i 0

-- each pixel has the lowest index of least distance in the palette of its own subset, and the error is these distances in sum
pub record GivesNearest (m : Mode) (ends : List Rgb) (part : ℕ) (cs : List Rgb) (given : Indices) : Type 0 where
  pub within : (i : ℕ) → i < 16 → given_index m given i ≤ largest m
  pub least : (i j : ℕ) → i < 16 → j ≤ largest m →
      distance_at m ends given.p (mask_of part) cs i (given_index m given i) ≤ distance_at m ends given.p (mask_of part) cs i j
  pub first : (i j : ℕ) → i < 16 → j < given_index m given i →
      distance_at m ends given.p (mask_of part) cs i (given_index m given i) < distance_at m ends given.p (mask_of part) cs i j
  pub error : given.error ≡ over_pixels (λ (i : ℕ). distance_at m ends given.p (mask_of part) cs i (given_index m given i))
