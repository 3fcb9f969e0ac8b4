-- Finishing by any distance: the nearest index of every pixel, and for each subset by itself the first of its own p-bits of least error.
use Rattle.std.specs.Prelude.{ℕ, List, [], ◌∷◌, map, eqb, get_or}
use Rattle.lists.specs.Tests.{pick}
use Rattle.lists.specs.Rows.{up_from, over_pixels}
use Rattle.lists.specs.Least.{first_least}
use Rattle.bptc.specs.Colour.{Rgba}
use Rattle.bptc_block.specs.Fields.{BlockFields}
use Rattle.bptc_block.specs.declared.PBits.{PBits}
use Rattle.bptc_block.specs.declared.PBits.TheVariants.{Free, Fixed}
use Rattle.bptc_block.specs.RgbaCandidate.{RgbaCandidate, rgba_candidate}
use Rattle.bptc.specs.Mode.{Mode, mode_numbered}
use Rattle.bptc.specs.Partition.{subset_in, in_subset}
use Rattle.bptc.specs.Colour.{clear, pixels_of, squared_distance}
use Rattle.bptc.specs.Shown.{own, joined_own}
use Rattle.bptc.specs.Palette.{end_of, palette_of, nearest}
use Rattle.bptc_block.specs.Packed.{packed}
use Rattle.bptc_block.specs.Chapter.{apart}
use Rattle.bptc_block.specs.Exchange.{compressed}
use Rattle.bptc_block.specs.Compressed.{Compressed}
use Rattle.bptc_block.specs.declared.Candidate.{Candidate}

-- the own p-bits that are tried after 0, in the Rust's order: the upper endpoint's, the lower one's, both
unfoldable pub other_bits : ℕ → List ℕ
other_bits own = pick (eqb own 0) [] (pick (eqb own 1) (1 ∷ []) (0b10 ∷ (0b01 ∷ (0b11 ∷ []))))

-- the distance of colour c to its nearest of a palette
unfoldable pub nearest_apart : (Rgba → Rgba → ℕ) → Mode → Rgba → Rgba → ℕ → Rgba → ℕ
nearest_apart distance m a b q c = distance c (palette_of m a b q (nearest distance m a b q c))

-- the summed distances of the pixels of a subset to their nearest colours, with its own p-bits
unfoldable pub error_in : (Rgba → Rgba → ℕ) → Mode → ℕ → List Rgba → List Rgba → ℕ → ℕ → ℕ
error_in distance m part ends cs s q =
    over_pixels (in_subset m.subsets part s (λ (i : ℕ). nearest_apart distance m (end_of ends s 0) (end_of ends s 1) q (get_or cs i clear)))

-- the own p-bits by which subset s is finished: the first of least error where they are free
unfoldable pub bits_in : (Rgba → Rgba → ℕ) → Mode → ℕ → List Rgba → PBits → List Rgba → ℕ → ℕ
bits_in distance m part ends Free cs s = first_least (error_in distance m part ends cs s) 0 (other_bits m.own_bits)
bits_in distance m part ends (Fixed p) cs s = own m p s

-- the p-bits that finishing gives
unfoldable pub chosen_bits : (Rgba → Rgba → ℕ) → Mode → ℕ → List Rgba → PBits → List Rgba → ℕ
chosen_bits distance m part ends ps cs = joined_own m (bits_in distance m part ends ps cs)

-- the fields at given p-bits, each pixel with its nearest colour
unfoldable pub fields_at : (Rgba → Rgba → ℕ) → Mode → ℕ → List Rgba → List Rgba → ℕ → BlockFields
fields_at distance m part ends cs p =
    record {
      partition = part;
      ends = ends;
      p = p;
      indices =
          map (λ (i : ℕ).
          let s : ℕ = subset_in m part i in
          nearest distance m (end_of ends s 0) (end_of ends s 1) (own m p s) (get_or cs i clear))
          (up_from 0 16);
    }

-- what finishing packs, before any exchange
unfoldable pub chosen_fields : (Rgba → Rgba → ℕ) → Mode → ℕ → List Rgba → PBits → List Rgba → BlockFields
chosen_fields distance m part ends ps cs = fields_at distance m part ends cs (chosen_bits distance m part ends ps cs)

-- the fields that finishing packs of a candidate
abbrev pub fields_by : (Rgba → Rgba → ℕ) → List Rgba → RgbaCandidate → BlockFields
fields_by distance cs c = chosen_fields distance (mode_numbered c.mode) c.partition c.ends c.p cs

-- the block and its error
unfoldable pub finished_by : (Rgba → Rgba → ℕ) → List Rgba → RgbaCandidate → Compressed
finished_by distance cs c =
    let m : Mode = mode_numbered c.mode in
    record { block = packed m (compressed m (fields_by distance cs c)); error = apart distance m cs (fields_by distance cs c) }

-- finishing 48 bytes with a candidate that is in range
abbrev pub finish : List ℕ → Candidate → Compressed
finish px c = finished_by squared_distance (pixels_of 3 px) (rgba_candidate c)
