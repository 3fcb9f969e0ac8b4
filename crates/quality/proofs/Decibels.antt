-- The peak signal-to-noise ratio is right, against powers of 10.
use Prim.Native.Nat.{ℕ, ◌+◌, ◌-◌, ◌*◌, ◌^◌, ◌<◌, ◌≤◌}
use native.Mathlib.Nat.{mul-le-mul, mul-le-mul_left, mul-le-mul_right, pow-le-pow_left, pow-le-pow_right, div-mul-le_self, lt-div-mul-add}
use lib.Pow.{pow_mono}
use native.Mathlib.Omega.{arith}
use mathlib.Core.Path.{◌≡◌, refl}
use mathlib.Core.Logic.{⊎_elim}
use borrow.Author.Tests.{leb-true}
use Rattle.std.specs.Prelude.{Some}
use Rattle.std.proofs.lemmas.Bool.{cases_lt}
use Rattle.std.proofs.lemmas.Nat.{pow-add, mul-pow}
use Rattle.quality.specs.Psnr.{log_in, psnr_of, RatioRight}
use Rattle.quality.proofs.Bits.{top_of, first, first_low, first_high, log-top, bits_lt}
use Rattle.quality.proofs.Falling.{log_rises, rate, some-ratio}
use Rattle.quality.proofs.Powers.{pow-pow, pow-swap, pow_order, pow_across}
use Rattle.quality.proofs.Bounds.{logarithms_right}

-- a power of 2 that is just below one of 10
two_ten : 2 ^ 13301 ≤ 10 ^ 4004
two_ten = leb-true (2 ^ 13301) (10 ^ 4004) refl

-- a power of 10 that is just below one of 2
ten_two : 10 ^ 8651 ≤ 2 ^ 28738
ten_two = leb-true (10 ^ 8651) (2 ^ 28738) refl

-- the m-th powers of two numbers, and a power of 10 between them, where bounds of their logarithms in k-ths are known
module _ (k m whole total : ℕ) (some : 0 < k) where
  -- the power of the greater is at most 10^w times that of the smaller
  not_low : (a b w : ℕ) → whole ^ k ≤ 2 ^ a → 2 ^ b ≤ total ^ k → 2 ^ (a * m) ≤ 10 ^ (w * k) * 2 ^ (b * m) → whole ^ m ≤ 10 ^ w * total ^ m
  not_low a b w ha hb h =
      let left : (whole ^ m) ^ k ≤ 2 ^ (a * m) = rw (pow-swap whole m k, ← pow-pow 2 a m) (pow-le-pow_left ha m) in
      let right : 2 ^ (b * m) ≤ (total ^ m) ^ k = rw (pow-swap total m k, ← pow-pow 2 b m) (pow-le-pow_left hb m) in
      pow_order (whole ^ m) (10 ^ w * total ^ m) k some
      (rw (mul-pow (10 ^ w) (total ^ m) k, pow-pow 10 w k) (omega (arith, left, h, mul-le-mul_left (10 ^ (w * k)) right)))

  -- the power of the greater is at least 10^w times that of the smaller
  not_high : (a b w : ℕ) → 2 ^ a ≤ whole ^ k → total ^ k ≤ 2 ^ b → 10 ^ (w * k) * 2 ^ (b * m) ≤ 2 ^ (a * m) → 10 ^ w * total ^ m ≤ whole ^ m
  not_high a b w ha hb h =
      let left : (total ^ m) ^ k ≤ 2 ^ (b * m) = rw (pow-swap total m k, ← pow-pow 2 b m) (pow-le-pow_left hb m) in
      let right : 2 ^ (a * m) ≤ (whole ^ m) ^ k = rw (pow-swap whole m k, ← pow-pow 2 a m) (pow-le-pow_left ha m) in
      pow_order (10 ^ w * total ^ m) (whole ^ m) k some
      (rw (mul-pow (10 ^ w) (total ^ m) k, pow-pow 10 w k) (omega (arith, right, h, mul-le-mul_left (10 ^ (w * k)) left)))

-- a power of 2 is at most a power of 10 times one of 2, where the exponents say so by `two_ten`
two_up : (a b f : ℕ) → 4004 * a ≤ 13301 * f + 4004 * b → 2 ^ a ≤ 10 ^ f * 2 ^ b
two_up a b f h =
    let x : ℕ = a - b in
    let p : 2 ^ x ≤ 10 ^ f = pow_across 2 10 13301 4004 x f (omega arith) (omega arith) two_ten (omega arith) in
    let l : a ≤ x + b = omega arith in
    let s : 2 ^ a ≤ 2 ^ x * 2 ^ b = rw (← pow-add 2 x b) (pow-le-pow_right (omega arith) l) in
    omega (arith, s, mul-le-mul_right (2 ^ b) p)

-- a power of 2 is at least a power of 10 times one of 2, where the exponents say so by `ten_two`
ten_up : (a b f : ℕ) → 28738 * f + 8651 * b ≤ 8651 * a → 10 ^ f * 2 ^ b ≤ 2 ^ a
ten_up a b f h =
    let x : ℕ = a - b in
    let p : 10 ^ f ≤ 2 ^ x = pow_across 10 2 8651 28738 f x (omega arith) (omega arith) ten_two (omega arith) in
    let l : x + b ≤ a = omega arith in
    let s : 2 ^ x * 2 ^ b ≤ 2 ^ a = rw (← pow-add 2 x b) (pow-le-pow_right (omega arith) l) in
    omega (arith, s, mul-le-mul_right (2 ^ b) p)

-- products with powers of 10 are in the order of the exponents and of the other factors; over variables, since omega stops at a power so
-- great
small_power : (w s t n : ℕ) → w ≤ s → t ≤ n → 10 ^ w * t ≤ 10 ^ s * n
small_power w s t n h l = mul-le-mul (pow-le-pow_right (omega arith) h) l

-- a power of 10 taken apart into two, where the second is reached by the other factor; over variables, for the same reason
more_power : (w s g t n : ℕ) → w ≡ s + g → 10 ^ g * t ≤ n → 10 ^ w * t ≤ 10 ^ s * n
more_power w s g t n e h = rw (e, pow-add) (omega (arith, mul-le-mul_left (10 ^ s) h))

-- the logarithm of a number below 2^46 is below 46
log_below : (n : ℕ) → 0 < n → n < 2 ^ 46 → log_in 48 n < 46 * 2 ^ 48
log_below n some h =
    let t = top_of n some (omega arith) in
    let few : t.j < 46 =
    ⊎_elim (λ l. l) (λ l. absurd (omega (arith, t.low, pow_mono l))) (cases_lt t.j 46) in
    omega (arith, log-top n t 48, few, bits_lt 48 (first n t) (first_low n t) (first_high n t))

-- a rate is at most half a hundredth above what it is rounded from
rate_low : (apart : ℕ) → rate apart * 2 ^ 112 ≤ apart * 5553023288523357132280 + 2 ^ 111
unfolding rate
rate_low apart = div-mul-le_self (apart * 5553023288523357132280 + 2 ^ 111) (2 ^ 112)

-- a rate is less than half a hundredth below what it is rounded from
rate_high : (apart : ℕ) → apart * 5553023288523357132280 + 2 ^ 111 < rate apart * 2 ^ 112 + 2 ^ 112
unfolding rate
rate_high apart = lt-div-mul-add (omega arith)

-- two logarithms a and b in 2^-48ths that differ by a rate of r hundredths
module _ (a b r : ℕ) (order : b ≤ a) (few : a < 46 * 2 ^ 48) (same : rate (a - b) ≡ r) where
  -- with what they are below the true ones, they differ by at most r + 0.501 hundredths of a decibel
  apart_low : 4004 * ((a + 2) * 1000000) ≤ 13301 * ((1000 * r + 501) * 2 ^ 48) + 4004 * (b * 1000000)
  apart_low = omega (arith, rate_high (a - b), same)

  -- with what they are below the true ones, they differ by at least r - 0.501 hundredths of a decibel
  apart_high : 0 < r → 28738 * ((1000 * r - 501) * 2 ^ 48) + 8651 * ((b + 2) * 1000000) ≤ 8651 * (a * 1000000)
  apart_high some = omega (arith, rate_low (a - b), same)

module _ (total values r : ℕ) (some : 0 < total) (most : total ≤ 65025 * values) (few : values ≤ 805306368)
    (is : psnr_of total values ≡ Some r) where
  -- the total of a picture of so many values that is wrong by 255 everywhere
  abbrev whole : ℕ
  whole = 65025 * values

  -- that total is not 0
  whole_some : 0 < whole
  whole_some = omega arith

  -- that total is below 2^46
  whole_fits : whole < 2 ^ 46
  whole_fits = omega arith

  -- the logarithm of that total
  abbrev a : ℕ
  a = log_in 48 whole

  -- the logarithm of the total of the picture
  abbrev b : ℕ
  b = log_in 48 total

  -- the logarithm of the greater total is no smaller
  order : b ≤ a
  order = log_rises 48 total whole some most (omega (arith, whole_fits))

  -- the ratio is the rate of what is between the two logarithms
  same : rate (a - b) ≡ r
  same = cc (some-ratio total values some)

  -- the ratio is not too low
  not-low : whole ^ 1000000 ≤ 10 ^ (1000 * r + 501) * total ^ 1000000
  not-low =
      let of_whole = logarithms_right 48 whole whole_some (omega (arith, whole_fits)) in
      let of_total = logarithms_right 48 total some (omega (arith, whole_fits)) in
      let h = apart_low a b r order (log_below whole whole_some whole_fits) same in
      not_low (2 ^ 48) 1000000 whole total (omega arith) (a + 2) b (1000 * r + 501) (of_whole.not_low (omega arith)) of_total.not_high
      (two_up ((a + 2) * 1000000) (b * 1000000) ((1000 * r + 501) * 2 ^ 48) h)

  -- the ratio is not too high
  not-high : 10 ^ (1000 * r) * total ^ 1000000 ≤ 10 ^ 501 * whole ^ 1000000
  not-high =
      let of_whole = logarithms_right 48 whole whole_some (omega (arith, whole_fits)) in
      let of_total = logarithms_right 48 total some (omega (arith, whole_fits)) in
      ⊎_elim
      (λ l.
      let e : 1000 * r ≡ 501 + (1000 * r - 501) = omega arith in
      more_power (1000 * r) 501 (1000 * r - 501) (total ^ 1000000) (whole ^ 1000000) e
      (not_high (2 ^ 48) 1000000 whole total (omega arith) a (b + 2) (1000 * r - 501) of_whole.not_high (of_total.not_low (omega arith))
      (ten_up (a * 1000000) ((b + 2) * 1000000) ((1000 * r - 501) * 2 ^ 48)
      (apart_high a b r order (log_below whole whole_some whole_fits) same l))))
      (λ l. small_power (1000 * r) 501 (total ^ 1000000) (whole ^ 1000000) (omega arith) (pow-le-pow_left most 1000000))
      (cases_lt 0 r)

-- every ratio is right
pub ratio_right : RatioRight
ratio_right total values r some most few is = record {
  not_high = not-high total values r some most few is;
  not_low = not-low total values r some most few is;
}
