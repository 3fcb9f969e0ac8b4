-- `bc7_c::parts::write_fields` meets its contract.
use native.Mathlib.Omega.{arith}
use mathlib.Core.Path.{◌≡◌}
use lib.ListN.{length, drop, length-take, length-drop, length-append}
use Rattle.bptc_block.specs.Answers.{reading_of}
use Rattle.bc7_c.specs.Parts.{head_bytes, field_bytes}
use Rattle.bc7_c.proofs.PartBytes.{put_last}
use borrow.Author.Rules.{rules}
use Rattle.bc7_c.proofs.parts.write_fields.Goals as goal

pub copy_from_slice-requires-2 : goal.copy_from_slice-requires-2
copy_from_slice-requires-2 c =
    let own : length c.args.reading.fields.indices ≡ 16 = search rules in
    simp (length-take, length-drop, length-append) (omega arith)

pub returns : goal.returns
unfolding field_bytes
returns c =
    let a = c.args in
    let h = c.head in
    let fifteen : length h.result ≡ 15 = search rules in
    rw (c.copy_from_slice.ensures.after, c.copy_from_slice-2.ensures.after, h.ensures)
    (put_last (head_bytes (reading_of a.reading.mode a.reading.fields)) a.reading.fields.indices (drop 15 a.part.now) 15 16 (rw h.ensures at fifteen) (simp length-drop (omega arith)))
