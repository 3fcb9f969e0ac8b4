-- Khronos Data Format Specification, BPTC: the colours of a block; and their distance from pixels, by any distance of two colours.
use Rattle.std.specs.Prelude.{ℕ, List, map, get_or}
use Rattle.lists.specs.Rows.{up_from, over_pixels}
use Rattle.bptc.specs.Mode.{Mode, mode_numbered}
use Rattle.bptc.specs.Partition.{subset_in}
use Rattle.bptc.specs.Colour.{Rgba, clear, pixels_of, squared_distance}
use Rattle.bptc.specs.Palette.{palette_at}
use Rattle.bptc_block.specs.Fields.{BlockFields}
use Rattle.bptc_block.specs.Packed.{mode_of, fields_of}

-- the colour that fields give pixel i
unfoldable pub colour_at : Mode → BlockFields → ℕ → Rgba
colour_at m f i = palette_at m f.ends f.p (subset_in m f.partition i) (get_or f.indices i 0)

-- the sixteen colours that fields give
unfoldable pub colours : Mode → BlockFields → List Rgba
colours m f = map (colour_at m f) (up_from 0 16)

-- the distance between pixel i and its colour
unfoldable pub apart_at : (Rgba → Rgba → ℕ) → Mode → List Rgba → BlockFields → ℕ → ℕ
apart_at dist m cs f i = dist (get_or cs i clear) (colour_at m f i)

-- the summed distance between pixels and the colours of fields
unfoldable pub apart : (Rgba → Rgba → ℕ) → Mode → List Rgba → BlockFields → ℕ
apart dist m cs f = over_pixels (apart_at dist m cs f)

-- the distance between pixels and a block, which says its mode itself
unfoldable pub block_apart : (Rgba → Rgba → ℕ) → List Rgba → List ℕ → ℕ
block_apart dist cs block =
    let m : Mode = mode_numbered (mode_of block) in
    apart dist m cs (fields_of m block)

-- the distance of a block from 48 bytes: in red, green and blue
abbrev pub distance : List ℕ → List ℕ → ℕ
distance px block = block_apart squared_distance (pixels_of 3 px) block
