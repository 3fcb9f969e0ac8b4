-- The call `read`: its answer, and what the lent pixel part holds afterwards.
use Rattle.std.specs.Prelude.{ℕ, List, eqb, length}
use Rattle.lists.specs.Tests.{pick}
use Rattle.bptc.specs.Mode.{Mode, mode_numbered}
use Rattle.bptc.specs.Colour.{pixel_bytes}
use Rattle.bptc_block.specs.Answers.{BlockRead, reading_of, unread}
use Rattle.bptc_block.specs.declared.Fields.{Fields}
use Rattle.bptc_block.specs.Fields.{rgb_fields}
use Rattle.bptc_block.specs.Packed.{mode_of, fields_of}
use Rattle.bptc_block.specs.Chapter.{colours}
use Rattle.bptc_block.specs.Refusal.{check_pixels, check_block, check_readable}

-- checks 1, 2, 8 and 9
unfoldable pub read_refusal : List ℕ → List ℕ → ℕ
read_refusal block px = check_pixels (length px) (check_block (length block) (check_readable block 0))

-- the fields of a reading
abbrev pub fields_read : BlockRead → Fields
fields_read r = record { partition = r.partition; ends = r.ends; p = r.p; indices = r.indices }

-- the answer: the block's mode and fields, or the refusal
unfoldable pub read_of : List ℕ → List ℕ → BlockRead
read_of block px =
    pick (eqb (read_refusal block px) 0) (reading_of (mode_of block) (rgb_fields (fields_of (mode_numbered (mode_of block)) block))) (unread (read_refusal block px))

-- the part afterwards: the bytes of the block's colours, or as it was
unfoldable pub read_into : List ℕ → List ℕ → List ℕ
read_into block px =
    let m : Mode = mode_numbered (mode_of block) in
    pick (eqb (read_refusal block px) 0) (pixel_bytes 3 (colours m (fields_of m block))) px
