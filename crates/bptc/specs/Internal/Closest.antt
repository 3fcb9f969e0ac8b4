-- What closest_rgb finds for the pixels of one subset.
use Rattle.std.specs.Prelude.{ℕ, List, map, get_or}
use Rattle.lists.specs.Rows.{up_from, over_pixels}
use Rattle.bptc.specs.declared.Rgb.{Rgb}
use Rattle.bptc.specs.Mode.{Mode}
use Rattle.bptc.specs.Partition.{in_subset}
use Rattle.bptc.specs.Internal.Colour.{black, dist_sq}
use Rattle.bptc.specs.Internal.Palette.{palette_colour}
use Rattle.bptc.specs.Internal.Nearest.{nearest_rgb}

-- an index for each of its pixels, 0 for each other, and the summed distance
pub record Closest : Type 0 where
  pub indices : List ℕ
  pub error : ℕ

-- over the pixels of subset s of a partition, by its endpoints and p-bits
unfoldable pub closest_in : Mode → ℕ → List Rgb → ℕ → ℕ → List Rgb → Closest
closest_in m part ends p s cs =
    record {
      indices = map (in_subset 2 part s (λ (i : ℕ). nearest_rgb m ends p s (get_or cs i black))) (up_from 0 16);
      error = over_pixels (in_subset 2 part s (λ (i : ℕ). dist_sq (get_or cs i black) (palette_colour m ends p s (nearest_rgb m ends p s (get_or cs i black)))));
    }
