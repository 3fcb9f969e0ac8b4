-- Khronos Data Format Specification, BPTC: the sixteen bytes of a block, and the mode and the fields that they say.
use Rattle.std.specs.Prelude.{ℕ, ◌+◌, ◌/◌, ◌%◌, ◌^◌, List, get_or}
use Rattle.lists.specs.Digits.{zeros_below}
use Rattle.lists.specs.Bits.{split, join}
use Rattle.lists.specs.Bytes.{bytes, number}
use Rattle.bptc.specs.Mode.{Mode}
use Rattle.bptc_block.specs.Fields.{BlockFields, widths, values, made}

-- the block of given fields
unfoldable pub packed : Mode → BlockFields → List ℕ
packed m f = bytes 16 (join (widths m f.partition) (values m f))

-- a block's mode: the zero bits below the lowest one bit of byte 0, and 8 where there is none
unfoldable pub mode_of : List ℕ → ℕ
mode_of block = zeros_below 8 (get_or block 0 0)

-- the partition in a block's number, which says where the anchors are
unfoldable pub partition_in : Mode → ℕ → ℕ
partition_in m n = n / 2 ^ (m.number + 1) % 2 ^ m.partition_bits

-- the fields of a block of a mode
unfoldable pub fields_of : Mode → List ℕ → BlockFields
fields_of m block = let n : ℕ = number block in made m (split (widths m (partition_in m n)) n)
