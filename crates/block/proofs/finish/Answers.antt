-- `block::finish` meets its contract.
use mathlib.Core.Path.{◌≡◌, ◌∙◌}
use Rattle.refusals.specs.declared.Refusal.TheVariants.{PixelPart, BlockPart}
use Rattle.refusals.specs.Numbers.{number_of}
use Rattle.bptc_block.specs.FinishCall.{finish_refusal}
use Rattle.bptc_block.proofs.Answers.{finish_err, finish_left, finish_pixels, finish_parts, finish_rest}
use Rattle.block.proofs.finish.Goals as goal

pub returns-in_default : goal.returns-in_default
returns-in_default c =
    let px = c.args.pixels.now in
    let part = c.args.block.now in
    let k = c.args.candidate in
    let e = finish_pixels px part k c.in_default.ensures.cases in
    (record { answer = finish_err PixelPart part px k e; part = finish_left PixelPart part px k e })

pub returns-in_default-as_mut_array : goal.returns-in_default-as_mut_array
returns-in_default-as_mut_array c =
    let px = c.args.pixels.now in
    let part = c.args.block.now in
    let k = c.args.candidate in
    let e = finish_parts px part k c.in-Some.ensures.cases.long c.in_default-as_mut_array.ensures.cases in
    (record { answer = finish_err BlockPart part px k e; part = finish_left BlockPart part px k e })

pub returns-in_err-candidate-clause-part : goal.returns-in_err-candidate-clause-part
returns-in_err-candidate-clause-part c =
    let px = c.args.pixels.now in
    let part = c.args.block.now in
    let k = c.args.candidate in
    let r = c.in_err-candidate.field-0.0 in
    let e : number_of r ≡ finish_refusal px k part =
    c.in_err-candidate.ensures ∙ finish_rest px part k c.in-Some.ensures.cases.long c.in-Some-as_mut_array.ensures.cases.long in
    c.in-Some-as_mut_array.ensures.cases.same ∙ finish_left r part px k e
