-- P1 to P12 and the row after them hold: every row of the table passes its test.
use Rattle.lists.specs.Rows.{written, over_pixels}
use Rattle.lists.specs.Parts.{joined}
use Rattle.lists.specs.Least.{first_least}
use Rattle.lists.specs.Digits.{zeros_below}
use Rattle.lists.specs.Bits.{split, join}
use Rattle.lists.specs.Bytes.{bytes}
use Rattle.bptc.specs.Mode.{mode_numbered, largest}
use Rattle.bptc.specs.Partition.{masks, anchors, table, digits_of, subset_of, anchor_of}
use Rattle.bptc.specs.Colour.{channel, without_alpha, stored, pixels_of, sq_diff, squared_distance}
use Rattle.bptc.specs.Shown.{own, joined_own, own_bit, widen, shown_by, end_by}
use Rattle.bptc.specs.Palette.{between, shade, palette_of, nearest_by}
use Rattle.bptc_block.specs.Fields.{index_width, widths, channel_values, values}
use Rattle.bptc_block.specs.Packed.{packed, mode_of}
use Rattle.bptc_block.specs.Chapter.{colour_at, apart_at, apart}
use Rattle.bptc_block.specs.Exchange.{swaps, swapped_own, swapped_by, compressed}
use Rattle.bptc_block.specs.Finish.{other_bits, nearest_apart, error_in, bits_in, chosen_bits, fields_at, chosen_fields, finished_by}
use Rattle.bptc_block.specs.Refusal.{check_rgba}
use Rattle.bptc_block.specs.PackCall.{pack_of, pack_into}
use Rattle.bptc_block.specs.FinishCall.{finish_refusal, finish_of, finish_into}
use Rattle.bptc_block.specs.ReadCall.{read_refusal, read_of}
use Rattle.chooser.specs.StartCall.{started_over, start_of}
use Rattle.chooser.specs.OfferCall.{finish_gives, offer_of}
use Rattle.chooser.specs.TakeCall.{take_of, take_into}
use Rattle.chooser.specs.Calls.{after, held}
use Rattle.chooser.specs.Worked.{rows, check, Worked}

-- by computing every definition
pub worked : Worked
unfolding over_pixels joined first_least zeros_below split join bytes written mode_numbered largest table masks anchors digits_of subset_of anchor_of channel without_alpha stored pixels_of sq_diff squared_distance own joined_own own_bit widen shown_by end_by between shade palette_of nearest_by index_width widths channel_values values packed mode_of colour_at apart_at apart swaps swapped_own swapped_by compressed other_bits nearest_apart error_in bits_in chosen_bits fields_at chosen_fields finished_by check_rgba pack_of pack_into finish_refusal finish_of finish_into read_refusal read_of started_over start_of finish_gives offer_of take_of take_into after held rows check
worked = tt
