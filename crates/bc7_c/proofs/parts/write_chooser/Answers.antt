-- `bc7_c::parts::write_chooser` meets its contract.
use native.Mathlib.Omega.{arith}
use mathlib.Core.Path.{◌≡◌, ◌∙◌}
use lib.ListN.{length, drop, length-take, length-drop, length-append}
use Rattle.bc7_c.proofs.PartBytes.{chooser_put, four_bytes}
use borrow.Author.Rules.{rules}
use Rattle.bc7_c.proofs.parts.write_chooser.Goals as goal

pub copy_from_slice-requires : goal.copy_from_slice-requires
copy_from_slice-requires c =
    let own : length c.args.chooser.pixels ≡ 48 = search rules in
    simp (length-take) (omega arith)

pub copy_from_slice-requires-2 : goal.copy_from_slice-requires-2
copy_from_slice-requires-2 c =
    let own : length c.args.chooser.block ≡ 16 = search rules in
    simp (length-take, length-drop, length-append) (omega arith)

pub returns : goal.returns
returns c =
    let a = c.args in
    rw (c.copy_from_slice.ensures.after, c.copy_from_slice-2.ensures.after, c.copy_from_slice-3.ensures.after, c.to_le_bytes.ensures ∙ four_bytes c.args.chooser.error (search rules))
    (chooser_put a.chooser (drop 48 a.part.now) (search rules) (search rules) (simp length-drop (omega arith)))
