-- What is shown is what the options say.
use mathlib.Core.Path.{refl}
use Rattle.std.proofs.Common.{arith}
use Rattle.std.proofs.lemmas.Grind.{common_steps}
use Rattle.arguments.proofs.Said.{shown_said}
use Rattle.arguments.proofs.command.Line.measure.Goals as goal

pub returns-clause-said : goal.returns-clause-said
returns-clause-said c = (
  refl,
  grind (arith, common_steps),
  shown_said c.in-Some.shown c.in_ok-names.options _ c.in_ok-names.ensures.given c.in-Some.ensures,
)
