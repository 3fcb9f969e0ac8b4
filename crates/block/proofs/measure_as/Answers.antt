-- `block::measure_as` meets its contract.
use mathlib.Core.Path.{sym, ap, ◌∙◌}
use borrow.Author.Rules.{rules}
use Rattle.bptc_block.specs.Packed.{fields_of}
use Rattle.bptc_block.specs.Chapter.{colours}
use Rattle.bptc_block.proofs.RoundTrip.{block_again, block_plain}
use Rattle.bptc_block.proofs.Distance.{apart-colours}
use Rattle.block.proofs.measure_as.Goals as goal

pub colours-requires : goal.colours-requires
colours-requires g c = rw c.fields.ensures (block_plain g.M.Mode.mode g.M.Mode.is_mode c.args.block.now)

pub returns : goal.returns
returns g c =
    let m = g.M.Mode in
    let block = c.args.block.now in
    c.distance.ensures
    ∙ sym (apart-colours m.mode (fields_of m.mode block) c.args.pixels.now c.colours.result (search rules) (search rules)
    (c.colours.ensures ∙ ap (colours m.mode) (rw c.fields.ensures (block_again m.mode m.is_mode block))))
