-- The errors worked by hand are what the definitions give.
use mathlib.Core.Path.{refl}
use Rattle.lists.specs.Rows.{over_pixels}
use Rattle.lists.specs.Digits.{zeros_below}
use Rattle.lists.specs.Bits.{split, join}
use Rattle.lists.specs.Bytes.{number}
use Rattle.lists.specs.Parts.{joined}
use Rattle.bptc.specs.Mode.{mode_numbered}
use Rattle.bptc.specs.Partition.{masks, anchors, table, digits_of, subset_of, anchor_of}
use Rattle.bptc.specs.Colour.{channel, pixels_of, pixel_bytes, sq_diff, squared_distance}
use Rattle.bptc.specs.Shown.{own, own_bit, widen, shown_by, end_by}
use Rattle.bptc.specs.Palette.{between, shade, palette_of}
use Rattle.bptc_block.specs.Fields.{index_width, widths, made, value_at}
use Rattle.bptc_block.specs.Packed.{mode_of, fields_of, partition_in}
use Rattle.bptc_block.specs.Chapter.{colour_at, colours, apart_at, apart, block_apart}
use Rattle.bptc_block.specs.ReadCall.{read_refusal, read_into}
use Rattle.bptc_block.specs.MeasureCall.{measure_of}
use Rattle.groups.specs.Cutting.{source_of, groups_of}
use Rattle.figures.specs.Row.{measured_at, errors_of}
use Rattle.own_error.specs.Own.{own_apart, own_at, own_row_of}
use Rattle.own_error.specs.OwnTotal.{over_rows}
use Rattle.own_error.specs.Worked.{Worked}

-- by computing every definition
pub worked : Worked
unfolding over_pixels own_apart own_at own_row_of over_rows groups_of source_of errors_of measured_at measure_of read_into read_refusal colours colour_at fields_of made number partition_in value_at joined pixel_bytes zeros_below split join mode_numbered masks anchors table digits_of subset_of anchor_of channel pixels_of sq_diff squared_distance own own_bit widen shown_by end_by between shade palette_of index_width widths mode_of apart_at apart block_apart
worked = record { one_pixel = refl; one_block = refl; four_blocks_own = refl; four_blocks = refl }
