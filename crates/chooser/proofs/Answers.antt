-- The answers worked by hand are what the definitions give.
use mathlib.Core.Path.{refl}
use Rattle.chooser.specs.Answers.{AnswersWorked}

-- by computing every definition
pub answers_worked : AnswersWorked
answers_worked = record {
  start = λ ch. refl;
  no_start = λ ch. refl;
  offer = λ ch. refl;
  no_offer = λ ch. refl;
  take = λ ch. refl;
  no_take = λ ch. refl;
}
