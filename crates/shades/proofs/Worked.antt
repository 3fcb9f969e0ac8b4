-- The shades worked by hand are what the definitions give.
use mathlib.Core.Path.{refl}
use Rattle.shades.specs.Shade.{first_where, shade_of, shades_of, grey_of}
use Rattle.shades.specs.Worked.{Worked}

-- by computing every definition
pub worked : Worked
unfolding first_where shade_of shades_of grey_of
worked = record { quarter_root = refl; quarter = refl; one_root = refl; one = refl; row = refl; grey_root = refl; grey = refl }
