-- `text` of `text::ppm::NewHeader` meets its contract.
use Prim.Native.Nat.{◌^◌, ◌<◌}
use borrow.Author.Rules.{rules}
use Rattle.text.proofs.PiecesText.{header_put}
use Rattle.text.proofs.ppm.NewHeader.text.Goals as goal

pub returns : goal.returns
returns c =
    let wide : c.args.self.width < 2 ^ 64 = search rules in
    let high : c.args.self.height < 2 ^ 64 = search rules in
    rw (
      c.put-3.ensures,
      c.put_number-2.ensures,
      c.put-2.ensures,
      c.put_number.ensures,
      c.put.ensures,
      c.new-line.ensures,
    ) (header_put c.args.self.width c.args.self.height wide high)
