-- The scale and what is white are those that the options say.
use mathlib.Core.Path.{refl}
use Rattle.std.proofs.Common.{rules, arith}
use Rattle.std.proofs.lemmas.Grind.{common_steps}
use Rattle.arguments.proofs.Said.{scale_linear, scale_root, white_said}
use Rattle.arguments.proofs.command.Line.map.Goals as goal
use Rattle.arguments.proofs.command.Line.map.Goals.{then-options, else-options}

pub returns-clause-said : goal.returns-clause-said
returns-clause-said c =
    let options = c.in_ok-names.options in
    let given = c.in_ok-names.ensures.given in (
      refl,
      grind (arith, common_steps),
      elim c.if-options.branch [
        | then-options w ↦ rw w.scale-is (scale_linear options _ given (search rules))
        | else-options w ↦ rw w.scale-is (scale_root options _ given (search rules))
      ],
      white_said options _ given,
    )
