-- The means and ratios worked by hand are what the definitions give.
use mathlib.Core.Path.{refl}
use lib.Count.{count_leading_zeros}
use Rattle.quality.specs.Mean.{mean_of}
use Rattle.quality.specs.Psnr.{log_bits, log_in, psnr_of}
use Rattle.quality.specs.Worked.{Worked}

-- by computing every definition
pub worked : Worked
unfolding mean_of log_bits log_in psnr_of count_leading_zeros
worked = record {
  thirds = refl;
  half_up = refl;
  none = refl;
  eight = refl;
  exact = refl;
  twenty = refl;
  forty = refl;
  sixty = refl;
  eighty = refl;
  half = refl;
  third = refl;
  fifth = refl;
  below = refl;
}
