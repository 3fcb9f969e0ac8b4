-- `bc7_c::parts::chooser_in` meets its contract.
use mathlib.Core.Path.{◌∙◌}
use Rattle.bc7_c.proofs.PartBytes.{chooser_pieces, four-number}
use borrow.Author.Rules.{rules}
use Rattle.bc7_c.proofs.parts.chooser_in.Goals as goal

pub returns : goal.returns
returns c =
    rw (
      c.copy_from_slice.ensures.after,
      c.copy_from_slice-2.ensures.after,
      c.from_le_bytes.ensures ∙ four-number c.copy_from_slice-3.new.self (search rules),
      c.copy_from_slice-3.ensures.after,
    )
    (chooser_pieces c.args.part.now (search rules))
