-- `choices::choices` meets its contract: a column tells the nearest indices and the distances at its p-bits.
use Rattle.std.proofs.Common.{◌∙◌, ◌^◌, arith}
use Rattle.choice_columns.proofs.FourColumns.{columns_small4}
use Rattle.choices.proofs.ChoiceKeys.{choices_range, choice_below, columns_all, columns_second, columns_words}
use Rattle.choices.proofs.choices.Goals as goal

pub block_columns-requires : goal.block_columns-requires
block_columns-requires c =
    let a = c.args in
    record { steps = choices_range a.ends.stored a.ends.within c.choice_numbers-numbers.result c.choice_numbers-numbers.ensures a.px.now (λ i h. c.fits-px i) a.mask }

pub column_sums-requires : goal.column_sums-requires
column_sums-requires c =
    let a = c.args in
    columns_small4 _ _ c.block_columns.ensures (2 ^ 23) (omega arith)
    (choice_below a.ends.stored a.ends.within c.choice_numbers-numbers.result c.choice_numbers-numbers.ensures a.px.now (λ i h. c.fits-px i) a.mask)

pub returns : goal.returns
returns c =
    let a = c.args in
    let out = c.block_columns in
    let told = c.column_sums.ensures in record {
      all = told.all ∙ columns_all a.ends.stored a.ends.within c.choice_numbers-numbers.result c.choice_numbers-numbers.ensures a.px.now (λ i h. c.fits-px i) a.mask out.result out.ensures;
      second = told.second ∙ columns_second a.ends.stored a.ends.within c.choice_numbers-numbers.result c.choice_numbers-numbers.ensures a.px.now (λ i h. c.fits-px i) a.mask out.result out.ensures;
      words = told.words ∙ columns_words a.ends.stored a.ends.within c.choice_numbers-numbers.result c.choice_numbers-numbers.ensures a.px.now (λ i h. c.fits-px i) a.mask out.result out.ensures;
    }
