-- Laws of one round of a logarithm: the bit and the scaled square of a number from 2^63 to below 2^64.
use Prim.Native.Nat.{ℕ, ◌+◌, ◌*◌, ◌/◌, ◌^◌, ◌<◌, ◌≤◌}
use native.Mathlib.Nat.{div-lt_iff_lt-mul, le-div_iff_mul-le, mul-le-mul, div-mul-le_self, div-eq_of_lt}
use native.Mathlib.Omega.{arith}
use mathlib.Core.Path.{◌≡◌}
use mathlib.Core.Logic.{⊎_elim}
use Rattle.std.proofs.lemmas.Bool.{cases_lt}
use Rattle.std.proofs.lemmas.Nat.{mul-lt, pow_pos}
use Rattle.quality.specs.Psnr.{log_bit, scaled_square}

-- the square of a number of 64 bits fits 128 bits
pub square_fits : (x : ℕ) → x < 2 ^ 64 → x * x < 2 ^ 128
square_fits x h = mul-lt x x (2 ^ 64) (2 ^ 64) h h

-- a bit of a logarithm is 0 or 1
pub bit_lt : (x : ℕ) → x < 2 ^ 64 → log_bit x < 2
bit_lt x h = (div-lt_iff_lt-mul (omega arith)).1 (square_fits x h)

module _ (x : ℕ) (low : 2 ^ 63 ≤ x) (high : x < 2 ^ 64) where
  -- a square below 2^127 scaled by 2^63 is from 2^63 to below 2^64
  small : x * x < 2 ^ 127 → (2 ^ 63 ≤ x * x / 2 ^ 63) × (x * x / 2 ^ 63 < 2 ^ 64)
  small h = ((le-div_iff_mul-le (omega arith)).1 (mul-le-mul low low), (div-lt_iff_lt-mul (omega arith)).1 h)

  -- a square of at least 2^127 scaled by 2^64 is from 2^63 to below 2^64
  large : 2 ^ 127 ≤ x * x → (2 ^ 63 ≤ x * x / 2 ^ 64) × (x * x / 2 ^ 64 < 2 ^ 64)
  large h = ((le-div_iff_mul-le (omega arith)).1 h, (div-lt_iff_lt-mul (omega arith)).1 (square_fits x high))

  -- the scaled square is from 2^63 to below 2^64
  scaled_in : (2 ^ 63 ≤ scaled_square x) × (scaled_square x < 2 ^ 64)
  scaled_in =
      ⊎_elim
      (λ h.
      let e : log_bit x ≡ 0 = div-eq_of_lt h in
      rw e (small h))
      (λ h.
      let p : 1 ≤ log_bit x = (le-div_iff_mul-le (omega arith)).1 h in
      let e : log_bit x ≡ 1 = omega (arith, bit_lt x high) in
      rw e (large h))
      (cases_lt (x * x) (2 ^ 127))

  -- the scaled square is at least 2^63
  pub scaled_le : 2 ^ 63 ≤ scaled_square x
  scaled_le = scaled_in.0

  -- the scaled square is below 2^64
  pub scaled_lt : scaled_square x < 2 ^ 64
  scaled_lt = scaled_in.1

-- of two numbers divided alike the greater has no smaller quotient
part_rises : (a b k : ℕ) → 0 < k → a ≤ b → a / k ≤ b / k
part_rises a b k p h = (le-div_iff_mul-le p).1 (omega (arith, div-mul-le_self a k))

-- of two numbers the greater has no smaller bit
pub bit_rises : (x y : ℕ) → x ≤ y → log_bit x ≤ log_bit y
bit_rises x y h = part_rises (x * x) (y * y) (2 ^ 127) (omega arith) (mul-le-mul h h)

-- of two numbers with equal bits the greater has no smaller scaled square
pub scaled_rises : (x y : ℕ) → x ≤ y → log_bit x ≡ log_bit y → scaled_square x ≤ scaled_square y
scaled_rises x y h e = rw e (part_rises (x * x) (y * y) (2 ^ (63 + log_bit y)) (pow_pos (63 + log_bit y)) (mul-le-mul h h))
