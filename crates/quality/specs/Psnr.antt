-- The peak signal-to-noise ratio by whole numbers, from binary logarithms that are worked out by squaring.
use Rattle.std.specs.Prelude.{ℕ, zero, suc, ◌+◌, ◌-◌, ◌*◌, ◌/◌, ◌^◌, ◌≤◌, ◌<◌, ◌≡◌, eqb, Option, Some, None}
use Rattle.std.specs.Int.Count.{count_leading_zeros}
use Rattle.lists.specs.Tests.{pick}

-- the first bit behind the point of the binary logarithm of x / 2^63, for x from 2^63 to below 2^64: 1 where the square of x / 2^63 is at
-- least 2
abbrev pub log_bit : ℕ → ℕ
log_bit x = x * x / 2 ^ 127

-- the square of x / 2^63, halved where it is at least 2, in 2^-63ths and rounded down
abbrev pub scaled_square : ℕ → ℕ
scaled_square x = x * x / 2 ^ (63 + log_bit x)

-- the first k bits behind the point of the binary logarithm of x / 2^63, as a number
unfoldable pub log_bits : ℕ → ℕ → ℕ
log_bits zero x = 0
log_bits (suc k) x = log_bit x * 2 ^ k + log_bits k (scaled_square x)

-- the binary logarithm of a number of 64 bits, in 2^-kths
unfoldable pub log_in : ℕ → ℕ → ℕ
log_in k n = (63 - count_leading_zeros 64 n) * 2 ^ k + log_bits k (n * 2 ^ count_leading_zeros 64 n)

-- the peak signal-to-noise ratio in hundredths of a decibel: 1000 log10 2, in 2^-64ths, times the logarithm of 255^2 * values / total,
-- rounded to the nearest; a figure next to a half, within 2^-38 of a hundredth, may go to either side. It is 0 for a greater total than
-- that of a picture that is wrong by 255 everywhere, and there is none for a total of 0
unfoldable pub psnr_of : ℕ → ℕ → Option ℕ
psnr_of total values =
    pick (eqb total 0) None
    (Some (((log_in 48 (65025 * values) - log_in 48 total) * 5553023288523357132280 + 2 ^ 111) / 2 ^ 112))

-- whether a ratio is no higher than another, where no ratio stands above all
abbrev pub NoHigher : Option ℕ → Option ℕ → Type 0
NoHigher p None = Unit {0}
NoHigher None (Some b) = ⊥
NoHigher (Some a) (Some b) = a ≤ b

-- of two totals the greater never has the higher ratio
abbrev pub FallsWithTotal : Type 0
FallsWithTotal = (total more values : ℕ) → total ≤ more → more < 2 ^ 64 → NoHigher (psnr_of more values) (psnr_of total values)

-- a picture without an error has no ratio, and every other picture has one
abbrev pub ExactAlone : Type 0
ExactAlone = (values : ℕ) → (psnr_of 0 values ≡ None) × ((total : ℕ) → 0 < total → psnr_of total values ≡ None → ⊥)

-- a picture that is wrong by 255 everywhere has a ratio of 0
abbrev pub NoSignal : Type 0
NoSignal = (values : ℕ) → 0 < values → psnr_of (65025 * values) values ≡ Some 0

-- a ratio of r hundredths against powers: (whole / total)^1000000 is between 10^(1000 r - 501) and 10^(1000 r + 501). So the true ratio,
-- 1000 log10 (whole / total), is at most 0.501 hundredths from r, of which 0.5 is the rounding
pub record Ratio (whole total r : ℕ) : Type 0 where
  pub not_high : 10 ^ (1000 * r) * total ^ 1000000 ≤ 10 ^ 501 * whole ^ 1000000
  pub not_low : whole ^ 1000000 ≤ 10 ^ (1000 * r + 501) * total ^ 1000000

-- the ratio is right for every picture of at most 16384 by 16384 pixels and every total above 0 that it can have
abbrev pub RatioRight : Type 0
RatioRight =
    (total values r : ℕ) → 0 < total → total ≤ 65025 * values → values ≤ 805306368 → psnr_of total values ≡ Some r →
    Ratio (65025 * values) total r

-- a logarithm of n in 2^-kths against the power of n: it is not above the true one, and at most two 2^-kths below it
pub record Logarithm (k n log : ℕ) : Type 0 where
  pub not_high : 2 ^ log ≤ n ^ 2 ^ k
  pub not_low : k ≤ 62 → n ^ 2 ^ k ≤ 2 ^ (log + 2)

-- the logarithms that are worked out are right for every number of 64 bits but 0
abbrev pub LogarithmsRight : Type 0
LogarithmsRight = (k n : ℕ) → 0 < n → n < 2 ^ 64 → Logarithm k n (log_in k n)
