-- `block::read` meets its contract.
use mathlib.Core.Path.{◌≡◌, ◌∙◌}
use Rattle.refusals.specs.declared.Refusal.TheVariants.{PixelPart, BlockPart}
use Rattle.refusals.specs.Numbers.{number_of}
use Rattle.bptc_block.specs.ReadCall.{read_refusal}
use Rattle.bptc_block.proofs.Answers.{read_err, read_left, read_pixels, read_parts, read_rest}
use Rattle.block.proofs.read.Goals as goal

pub returns-in_default : goal.returns-in_default
returns-in_default c =
    let block = c.args.block.now in
    let px = c.args.pixels.now in
    let e = read_pixels block px c.in_default.ensures.cases in
    (record { answer = read_err PixelPart block px e; part = read_left PixelPart block px e })

pub returns-in_default-as_array : goal.returns-in_default-as_array
returns-in_default-as_array c =
    let block = c.args.block.now in
    let px = c.args.pixels.now in
    let p = c.in-Some.ensures.cases in
    let e = read_parts block px p.long c.in_default-as_array.ensures.cases in
    (record { answer = read_err BlockPart block px e; part = p.same ∙ read_left BlockPart block px e })

pub returns-in_err-mode-clause-part : goal.returns-in_err-mode-clause-part
returns-in_err-mode-clause-part c =
    let block = c.args.block.now in
    let px = c.args.pixels.now in
    let p = c.in-Some.ensures.cases in
    let b = c.in-Some-as_array.ensures.cases in
    let r = c.in_err-mode.field-0.0 in
    let e : number_of r ≡ read_refusal block px = rw b.same at c.in_err-mode.ensures ∙ read_rest block px p.long b.long in
    p.same ∙ read_left r block px e
