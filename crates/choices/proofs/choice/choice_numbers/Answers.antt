-- `choices::choice::choice_numbers` meets its contract: a choice in each column.
use Rattle.std.proofs.Common.{◌∙◌}
use Rattle.choices.proofs.ChoiceKeys.{choice_rows}
use Rattle.choices.proofs.choice.choice_numbers.Goals as goal

pub returns : goal.returns
returns c =
    c.numbers_of4.ensures
    ∙ choice_rows c.args.ends.stored c.args.ends.within _ _ _ _ c.palettes.ensures c.palettes-2.ensures c.palettes-3.ensures c.palettes-4.ensures
