-- The rows are those that the options say.
use mathlib.Core.Path.{refl}
use Rattle.std.proofs.Common.{arith}
use Rattle.std.proofs.lemmas.Grind.{common_steps}
use Rattle.arguments.proofs.Said.{rows_said}
use Rattle.arguments.proofs.command.Line.bake.Goals as goal

pub returns-in-len2-clause-said : goal.returns-in-len2-clause-said
returns-in-len2-clause-said c = (refl, grind (arith, common_steps), rows_said c.in_ok-names.options _ c.in_ok-names.ensures.given)

pub returns-in-len3-clause-said : goal.returns-in-len3-clause-said
returns-in-len3-clause-said c = (refl, grind (arith, common_steps), rows_said c.in_ok-names.options _ c.in_ok-names.ensures.given)
