-- `block::measure` meets its contract.
use Rattle.refusals.specs.declared.Refusal.TheVariants.{PixelPart, BlockPart}
use Rattle.bptc_block.proofs.Answers.{measure_err, read_pixels, read_parts}
use Rattle.block.proofs.measure.Goals as goal

pub returns-in_default : goal.returns-in_default
returns-in_default c = measure_err PixelPart _ _ (read_pixels _ _ c.in_default.ensures.cases)

pub returns-in_default-as_array : goal.returns-in_default-as_array
returns-in_default-as_array c =
    measure_err BlockPart _ _ (read_parts _ _ c.in-Some.ensures.cases.long c.in_default-as_array.ensures.cases)
