-- The answers worked by hand are what the definitions give.
use mathlib.Core.Path.{refl}
use Rattle.bptc_block.specs.Worked.{AnswersWorked}

-- by computing every definition
pub answers_worked : AnswersWorked
answers_worked = record { finished = refl; not_finished = refl; measured = refl; not_measured = refl; read = refl; not_read = refl }
