-- The answers worked by hand are what the definitions give.
use mathlib.Core.Path.{refl}
use Rattle.figures.specs.Worked.{Worked}

-- by computing every definition
pub worked : Worked
worked = record { whole_row = refl; declined_row = refl; block = refl; declined_block = refl; no_block = refl }
