-- A logarithm in 2^-kths is not above the true one, and at most two 2^-kths below it.
use Prim.Native.Nat.{ℕ, zero, suc, ◌+◌, ◌-◌, ◌*◌, ◌^◌, ◌<◌, ◌≤◌}
use native.Mathlib.Nat.{mul-le-mul_left, mul-le-mul_right, le_of_mul-le-mul_right, pow-le-pow_left, pow-suc, one-le-pow, div-mul-le_self, lt-div-mul-add}
use native.Mathlib.Omega.{arith}
use lib.Pow.{pow_mono}
use mathlib.Core.Path.{◌≡◌, sym, ap, ◌∙◌}
use Rattle.std.proofs.lemmas.Nat.{pow-add, mul-pow, pow_pos}
use Rattle.quality.specs.Psnr.{log_bit, scaled_square, log_bits, log_in, LogarithmsRight}
use Rattle.quality.proofs.Squares.{scaled_lt, scaled_le}
use Rattle.quality.proofs.Bits.{Top, top_of, first, first_low, first_high, sum_63, log-top, bits-zero, bits-suc}
use Rattle.quality.proofs.Powers.{pow-one, pow-pow, pow-twice, pow-square, near_power}

-- what stands for 1 in 2^-63ths
abbrev one : ℕ
one = 2 ^ 63

-- the least number above it
abbrev more : ℕ
more = one + 1

-- the power of 2^63 times a power of 2 is the product of the powers
power_of : (p k : ℕ) → (2 ^ (63 + p)) ^ k ≡ one ^ k * 2 ^ (p * k)
power_of p k = rw (pow-add 2 63 p, mul-pow one (2 ^ p) k, pow-pow 2 p k)

-- the products of a lower bound in another order, over variables, so that omega sees no power
low_chain : (p r a y z : ℕ) → r * a ≤ y → y * (a * p) ≤ z → p * r * (a * a) ≤ z
low_chain p r a y z h l = omega (arith, mul-le-mul_right (a * p) h, l)

-- the products of an upper bound in another order, over variables, so that omega sees no power
high_chain : (p r a b y z : ℕ) → y * a ≤ r * (a * b) → z * a ≤ y * b * (a * p) → z * (a * a) ≤ p * r * (a * a * (b * b))
high_chain p r a b y z h l = omega (arith, mul-le-mul_right (b * (a * p)) h, mul-le-mul_right a l)

-- the first k bits of the logarithm of x / 2^63 are not above it
bits_low : (k x : ℕ) → 2 ^ 63 ≤ x → x < 2 ^ 64 → 2 ^ log_bits k x * one ^ 2 ^ k ≤ x ^ 2 ^ k
bits_low zero x low high = rw (bits-zero, pow-one x) (omega arith)
bits_low (suc k) x low high =
    let y : ℕ = scaled_square x in
    let h = bits_low k y (scaled_le x low high) (scaled_lt x low high) in
    let q : ℕ = 2 ^ (63 + log_bit x) in
    let d : (y * q) ^ 2 ^ k ≤ (x * x) ^ 2 ^ k = pow-le-pow_left (div-mul-le_self (x * x) q) (2 ^ k) in
    let l : y ^ 2 ^ k * (one ^ 2 ^ k * 2 ^ (log_bit x * 2 ^ k)) ≤ (x * x) ^ 2 ^ k =
    rw (mul-pow y q (2 ^ k), power_of (log_bit x) (2 ^ k)) at d in
    rw (bits-suc k x, pow-add 2 (log_bit x * 2 ^ k) (log_bits k y), pow-square x k, pow-twice one k)
    (low_chain (2 ^ (log_bit x * 2 ^ k)) (2 ^ log_bits k y) (one ^ 2 ^ k) (y ^ 2 ^ k) ((x * x) ^ 2 ^ k) h l)

-- a quotient z / q is at most (2^63 + 1) / 2^63 of what it is rounded down to, where that is at least 2^63
step_up : (z y q : ℕ) → one ≤ y → z < y * q + q → z * one ≤ y * more * q
step_up z y q low h =
    let l : y * one + one ≤ y * more = omega arith in
    let n : z + 1 ≤ y * q + q = omega arith in
    omega (arith, mul-le-mul_right q l, mul-le-mul_right one n)

-- the first k bits of the logarithm of x / 2^63 are at most one 2^-kth below it, but for what the scaled squares lose: a factor of at most
-- (2^63 + 1) / 2^63 of x
bits_high : (k x : ℕ) → 2 ^ 63 ≤ x → x < 2 ^ 64 →
    x ^ 2 ^ k * one ^ 2 ^ k ≤ 2 ^ (log_bits k x + 1) * (one ^ 2 ^ k * more ^ 2 ^ k)
bits_high zero x low high = rw (bits-zero, pow-one x) (omega arith)
bits_high (suc k) x low high =
    let y : ℕ = scaled_square x in
    let q : ℕ = 2 ^ (63 + log_bit x) in
    let h = bits_high k y (scaled_le x low high) (scaled_lt x low high) in
    let s : x * x * one ≤ y * more * q = step_up (x * x) y q (scaled_le x low high) (lt-div-mul-add (pow_pos (63 + log_bit x))) in
    let d : (x * x * one) ^ 2 ^ k ≤ (y * more * q) ^ 2 ^ k = pow-le-pow_left s (2 ^ k) in
    let l : (x * x) ^ 2 ^ k * one ^ 2 ^ k ≤ y ^ 2 ^ k * more ^ 2 ^ k * (one ^ 2 ^ k * 2 ^ (log_bit x * 2 ^ k)) =
    rw (mul-pow (x * x) one (2 ^ k), mul-pow (y * more) q (2 ^ k), mul-pow y more (2 ^ k), power_of (log_bit x) (2 ^ k)) at d in
    let e : log_bit x * 2 ^ k + log_bits k y + 1 ≡ log_bit x * 2 ^ k + (log_bits k y + 1) = omega arith in
    rw (bits-suc k x, e, pow-add 2 (log_bit x * 2 ^ k) (log_bits k y + 1), pow-square x k, pow-twice one k, pow-twice more k)
    (high_chain (2 ^ (log_bit x * 2 ^ k)) (2 ^ (log_bits k y + 1)) (one ^ 2 ^ k) (more ^ 2 ^ k) (y ^ 2 ^ k) ((x * x) ^ 2 ^ k) h l)

-- the scaled squares of at most 62 bits lose at most one 2^-kth of the logarithm, so that the bits are at most two 2^-kths below it
module _ (k x : ℕ) (few : k ≤ 62) (low : 2 ^ 63 ≤ x) (high : x < 2 ^ 64) where
  bits_near : x ^ 2 ^ k ≤ 2 ^ (log_bits k x + 2) * one ^ 2 ^ k
  bits_near =
      let r : ℕ = 2 ^ (log_bits k x + 1) in
      let a : ℕ = one ^ 2 ^ k in
      let few_powers : 2 ^ k + 2 ^ k ≤ one = omega (arith, pow_mono few) in
      let near : more ^ 2 ^ k ≤ 2 * a = near_power one (2 ^ k) (omega arith) few_powers in
      let some : 0 < a = one-le-pow (2 ^ k) one (omega arith) in
      let e : log_bits k x + 2 ≡ suc (log_bits k x + 1) = omega arith in
      let twice : 2 ^ (log_bits k x + 2) ≡ r * 2 = rw e (pow-suc 2 (log_bits k x + 1)) in
      let whole : x ^ 2 ^ k ≤ r * more ^ 2 ^ k =
      le_of_mul-le-mul_right {k = a} (omega (arith, bits_high k x low high)) some in
      rw twice (omega (arith, whole, mul-le-mul_left r near))

-- the logarithm of a number n and of n shifted so that its first 1 stands at 2^63
module _ (k n : ℕ) (t : Top n) where
  -- the power of the shifted number is that of n times that of the shift
  shifted : (first n t) ^ 2 ^ k ≡ n ^ 2 ^ k * (2 ^ (63 - t.j)) ^ 2 ^ k
  shifted = mul-pow n (2 ^ (63 - t.j)) (2 ^ k)

  -- the power of 2^63 is that of 2^j times that of the shift
  top-power : one ^ 2 ^ k ≡ 2 ^ (t.j * 2 ^ k) * (2 ^ (63 - t.j)) ^ 2 ^ k
  top-power =
      ap (λ (a : ℕ). a ^ 2 ^ k) (sym (sum_63 n t))
      ∙ mul-pow (2 ^ t.j) (2 ^ (63 - t.j)) (2 ^ k)
      ∙ ap (λ (a : ℕ). a * (2 ^ (63 - t.j)) ^ 2 ^ k) (pow-pow 2 t.j (2 ^ k))

  -- the power of the shift is not 0
  some_shift : 0 < (2 ^ (63 - t.j)) ^ 2 ^ k
  some_shift = one-le-pow (2 ^ k) (2 ^ (63 - t.j)) (pow_pos (63 - t.j))

  -- the logarithm in 2^-kths is not above the true one
  log_low : 2 ^ log_in k n ≤ n ^ 2 ^ k
  log_low =
      let r : ℕ = log_bits k (first n t) in
      let h = rw (shifted, top-power) at (bits_low k (first n t) (first_low n t) (first_high n t)) in
      rw (log-top n t k, pow-add 2 (t.j * 2 ^ k) r)
      (le_of_mul-le-mul_right {k = (2 ^ (63 - t.j)) ^ 2 ^ k} (omega (arith, h)) some_shift)

  -- the logarithm in 2^-kths is at most two of these below the true one
  log_high : k ≤ 62 → n ^ 2 ^ k ≤ 2 ^ (log_in k n + 2)
  log_high few =
      let r : ℕ = log_bits k (first n t) in
      let h = rw (shifted, top-power) at (bits_near k (first n t) few (first_low n t) (first_high n t)) in
      let e : t.j * 2 ^ k + r + 2 ≡ t.j * 2 ^ k + (r + 2) = omega arith in
      rw (log-top n t k, e, pow-add 2 (t.j * 2 ^ k) (r + 2))
      (le_of_mul-le-mul_right {k = (2 ^ (63 - t.j)) ^ 2 ^ k} (omega (arith, h)) some_shift)

-- the logarithm of every number of 64 bits but 0 is within its bounds
pub logarithms_right : LogarithmsRight
logarithms_right k n some fits =
    let t = top_of n some fits in
    record { not_high = log_low k n t; not_low = log_high k n t }
