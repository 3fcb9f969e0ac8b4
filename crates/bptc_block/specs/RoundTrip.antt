-- What reading, packing and measuring promise of each other, through the definitions that the calls' contracts cite.
use Rattle.std.specs.Prelude.{ℕ, ◌+◌, ◌-◌, ◌*◌, ◌%◌, ◌^◌, ◌<◌, ◌≡◌, ◌⊎◌, List, map, get_or, length}
use Rattle.lists.specs.Rows.{up_from, sum}
use Rattle.lists.specs.Bytes.{Bytes}
use Rattle.bptc.specs.Mode.{mode_numbered}
use Rattle.bptc.specs.Colour.{Rgba, rgb_of, pixel_bytes}
use Rattle.bptc_block.specs.declared.Fields.{Fields}
use Rattle.bptc_block.specs.Fields.{BlockFields, block_fields, rgb_fields}
use Rattle.bptc_block.specs.Packed.{fields_of}
use Rattle.bptc_block.specs.Chapter.{colour_at, colours}
use Rattle.bptc_block.specs.Exchange.{compressed}
use Rattle.bptc_block.specs.Answers.{reading_of}
use Rattle.bptc_block.specs.PackCall.{pack_of, pack_into}
use Rattle.bptc_block.specs.ReadCall.{read_refusal, fields_read, read_of, read_into}
use Rattle.bptc_block.specs.MeasureCall.{measure_of}
use Rattle.bptc_block.specs.Limits.{InRange}

-- sixteen bytes that say mode n, 1 or 3: the n lowest bits of byte 0 are 0, and the next is 1
pub record Block (n : ℕ) (block : List ℕ) : Type 0 where
  pub known : (n ≡ 1) ⊎ (n ≡ 3)
  pub sixteen : length block ≡ 16
  pub bytes : Bytes block
  pub mode : get_or block 0 0 % 2 ^ (n + 1) ≡ 2 ^ n

-- pixel i of 48 bytes, by the places of its bytes: said apart from the pixels that the calls' contracts speak of
abbrev pub plain_pixel : List ℕ → ℕ → Rgba
plain_pixel px i = record { r = get_or px (i * 3) 0; g = get_or px (i * 3 + 1) 0; b = get_or px (i * 3 + 2) 0; a = 255 }

-- what is read of such a block, and what packing makes of it
pub record ReadWhole (n : ℕ) (block px part : List ℕ) : Type 0 where
  -- its mode, and the chapter's fields
  pub fields :
      let f : BlockFields = fields_of (mode_numbered n) block in
      read_of block px ≡ record { refusal = 0; mode = n; partition = f.partition; ends = map rgb_of f.ends; p = f.p; indices = f.indices }
  -- 48 bytes, red, green and blue of the colour that the chapter gives each pixel
  pub long : length (read_into block px) ≡ 48
  pub colours : (i : ℕ) → i < 16 → plain_pixel (read_into block px) i ≡ colour_at (mode_numbered n) (fields_of (mode_numbered n) block) i
  -- packing the fields read, with the same mode, gives the same sixteen bytes
  pub accepted : pack_of n (fields_read (read_of block px)) part ≡ 0
  pub again : pack_into n (fields_read (read_of block px)) part ≡ block

-- demand 2 of `read`: every block of either mode is read as the chapter has it, and packed again
abbrev pub PackedAsRead : Type 0
PackedAsRead =
    (n : ℕ) (block px part : List ℕ) → Block n block → length px ≡ 48 → length part ≡ 16 →
    ReadWhole n block px part

-- fields in range are read again from what `pack` wrote, up to its exchange, and the pixels are the colours of the fields handed in
abbrev pub ReadAsPacked : Type 0
ReadAsPacked =
    (mode : ℕ) (f : Fields) (part px : List ℕ) → InRange mode f → length part ≡ 16 → length px ≡ 48 →
    (read_of (pack_into mode f part) px ≡ reading_of mode (rgb_fields (compressed (mode_numbered mode) (block_fields f))))
    × (read_into (pack_into mode f part) px ≡ pixel_bytes 3 (colours (mode_numbered mode) (block_fields f)))

-- the square of the difference of two bytes: one of the two terms is 0
abbrev pub squared : ℕ → ℕ → ℕ
squared a b = (a - b) * (a - b) + (b - a) * (b - a)

-- the squared differences in red, green and blue between pixel i of 48 bytes and that of others
abbrev pub pixels_apart : List ℕ → List ℕ → ℕ → ℕ
pixels_apart px other i =
    squared (get_or px (i * 3) 0) (get_or other (i * 3) 0)
    + squared (get_or px (i * 3 + 1) 0) (get_or other (i * 3 + 1) 0)
    + squared (get_or px (i * 3 + 2) 0) (get_or other (i * 3 + 2) 0)

-- the error measured is the sum of these over the sixteen pixels and the bytes that the block is read as
abbrev pub MeasuredSum : Type 0
MeasuredSum =
    (n : ℕ) (block px into : List ℕ) → Block n block → length px ≡ 48 → length into ≡ 48 →
    measure_of block px ≡ record { refusal = 0; error = sum (map (pixels_apart px (read_into block into)) (up_from 0 16)) }

-- every pixel has the colour that the chapter gives the block there
abbrev pub SameColours : ℕ → List ℕ → List ℕ → Type 0
SameColours n block px = (i : ℕ) → i < 16 → plain_pixel px i ≡ colour_at (mode_numbered n) (fields_of (mode_numbered n) block) i

-- the error measured is 0 exactly when every pixel equals the block's colour there
abbrev pub MeasuredZero : Type 0
MeasuredZero =
    (n : ℕ) (block px : List ℕ) → Block n block → length px ≡ 48 →
    ((measure_of block px).refusal ≡ 0)
    × (((measure_of block px).error ≡ 0 → SameColours n block px) × (SameColours n block px → (measure_of block px).error ≡ 0))

-- a block measured against the pixels that it was read into has error 0, and is declined where the reading was
abbrev pub MeasuredAsRead : Type 0
MeasuredAsRead =
    (block px : List ℕ) → measure_of block (read_into block px) ≡ record { refusal = read_refusal block px; error = 0 }
