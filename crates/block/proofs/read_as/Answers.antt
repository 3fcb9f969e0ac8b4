-- `block::read_as` meets its contract.
use mathlib.Core.Path.{sym, ap, ◌∙◌}
use borrow.Author.Rules.{rules}
use Rattle.bptc.specs.Colour.{pixel_bytes}
use Rattle.bptc.proofs.Opaque.{bytes_opaque}
use Rattle.bptc_block.specs.Chapter.{colours}
use Rattle.bptc_block.proofs.RoundTrip.{block_again, block_plain}
use Rattle.block.proofs.read_as.Goals as goal

pub colours-requires : goal.colours-requires
colours-requires g c = rw c.fields-fields.ensures (block_plain g.M.Mode.mode g.M.Mode.is_mode c.args.block.now)

pub returns-clause-part : goal.returns-clause-part
returns-clause-part g c =
    let m = g.M.Mode in
    let block = c.args.block.now in
    c.write_pixels.ensures
    ∙ sym (bytes_opaque c.colours.result (search rules))
    ∙ ap (pixel_bytes 3) (c.colours.ensures ∙ ap (colours m.mode) (rw c.fields-fields.ensures (block_again m.mode m.is_mode block)))
