-- Means and ratios worked by hand.
use Rattle.std.specs.Prelude.{◌≡◌, Some, None}
use Rattle.quality.specs.Mean.{mean_of}
use Rattle.quality.specs.Psnr.{log_in, psnr_of}

-- what the definitions of means, logarithms and ratios give
pub record Worked : Type 0 where
  -- a mean of 2/3 is 0.667
  pub thirds : mean_of 2 3 ≡ 667
  -- a mean of 1/16 is 0.0625 and so 0.063
  pub half_up : mean_of 3 48 ≡ 63
  -- no values have a mean of 0
  pub none : mean_of 5 0 ≡ 0
  -- the binary logarithm of 8 is 3
  pub eight : log_in 10 8 ≡ 3072
  -- a picture without an error
  pub exact : psnr_of 0 48 ≡ None
  -- a mean of a hundredth of 255^2 is 20 decibels
  pub twenty : psnr_of 65025 100 ≡ Some 2000
  -- a mean of 255^2 / 10^4, 255^2 / 10^6 and 255^2 / 10^8 is 40, 60 and 80 decibels
  pub forty : psnr_of 65025 10000 ≡ Some 4000
  pub sixty : psnr_of 65025 1000000 ≡ Some 6000
  pub eighty : psnr_of 65025 100000000 ≡ Some 8000
  -- a mean of a half, a third and a fifth of 255^2 is 3.0103, 4.7712 and 6.9897 decibels
  pub half : psnr_of 65025 2 ≡ Some 301
  pub third : psnr_of 65025 3 ≡ Some 477
  pub fifth : psnr_of 65025 5 ≡ Some 699
  -- a total greater than that of a picture that is wrong by 255 everywhere
  pub below : psnr_of 65026 1 ≡ Some 0
