-- Laws of a quotient rounded up: it is the least number whose product with the divisor reaches the dividend.
use Prim.Native.Nat.{ℕ, ◌+◌, ◌*◌, ◌/◌, ◌%◌, ◌<◌, ◌≤◌, min}
use native.Mathlib.Nat.{mul-le-mul_right}
use native.Mathlib.Omega.{arith}
use Rattle.std.proofs.lemmas.Grind.{div_ceil_times}

module _ (n white : ℕ) (some : 0 < white) where
  -- a number of at least the quotient reaches the dividend
  pub up_reached : (m : ℕ) → n / white + min 1 (n % white) ≤ m → n ≤ m * white
  up_reached m h = omega (arith, (div_ceil_times n white some).0, mul-le-mul_right white h)

  -- a number below the quotient does not reach the dividend
  pub up-least : (m : ℕ) → m < n / white + min 1 (n % white) → m * white < n
  up-least m h = omega (arith, (div_ceil_times n white some).1, mul-le-mul_right white h)
