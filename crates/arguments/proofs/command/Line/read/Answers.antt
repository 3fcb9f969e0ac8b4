-- The width and the block are those that the options say.
use mathlib.Core.Path.{refl}
use Rattle.std.proofs.Common.{arith}
use Rattle.std.proofs.lemmas.Grind.{common_steps}
use Rattle.arguments.proofs.Said.{width_said, block_said}
use Rattle.arguments.proofs.command.Line.read.Goals as goal

pub returns-clause-said : goal.returns-clause-said
returns-clause-said c = (
  refl,
  grind (arith, common_steps),
  width_said c.in_ok-names.options _ c.in_ok-names.ensures.given,
  block_said c.in_ok-names.options _ c.in_ok-names.ensures.given,
)
