-- The mean squared error of a channel value.
use Rattle.std.specs.Prelude.{ℕ, ◌+◌, ◌*◌, ◌/◌, ◌≤◌, ◌<◌, eqb}
use Rattle.lists.specs.Tests.{pick}

-- the mean in thousandths of so many values with a total, rounded to the nearest, a half up; 0 where there are no values
unfoldable pub mean_of : ℕ → ℕ → ℕ
mean_of total values = pick (eqb values 0) 0 ((2000 * total + values) / (2 * values))

-- a mean in thousandths is at most half a thousandth from the quotient of total and values
pub record Nearest (total values mean : ℕ) : Type 0 where
  pub not_low : 2000 * total < (2 * mean + 1) * values
  pub not_high : 2 * mean * values ≤ 2000 * total + values

-- the mean of any total is the nearest
abbrev pub MeanNearest : Type 0
MeanNearest = (total values : ℕ) → 0 < values → Nearest total values (mean_of total values)
