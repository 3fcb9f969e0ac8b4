-- The lines worked by hand.
use mathlib.Core.Path.{refl}
use Rattle.text.specs.Decimal.{value_of, number_in}
use Rattle.arguments.specs.Line.{numbers_behind, names_of, options_of, numbers_at}
use Rattle.arguments.specs.Worked.{Worked}

-- each definition gives what is worked by hand
pub worked : Worked
unfolding value_of number_in numbers_behind names_of options_of numbers_at
worked = record {
  names = refl;
  rows = refl;
  worst = refl;
  total = refl;
  csv = refl;
  width = refl;
  block = refl;
  linear = refl;
  white = refl;
  between = refl;
  dash = refl;
  options = refl;
  own = refl;
  twice = refl;
  foreign = refl;
  none = refl;
  said = refl;
  stands = refl;
  missing = refl;
}
