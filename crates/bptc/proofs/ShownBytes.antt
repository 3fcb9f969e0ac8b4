-- What a stored channel shows: a byte at every width, and in the form of each mode.
use Prim.Native.Nat.{ℕ, suc, ◌+◌, ◌-◌, ◌*◌, ◌/◌, ◌^◌, ◌≤◌, ◌<◌}
use native.Mathlib.Nat.{mul_comm, suc-mul, pow-suc, mul-le-mul_right, div-lt_iff_lt-mul}
use native.Mathlib.Omega.{arith}
use mathlib.Core.Path.{◌≡◌}
use lib.Pow.{pow_pos, pow-add}
use Rattle.bptc.specs.Internal.Shown.{p_shown}
use Rattle.bptc.specs.Shown.{widen}

-- k + a bits made eight: the lowest a places are filled by the top a bits
widened : (a k v : ℕ) → k + a + a ≡ 8 → v < 2 ^ (k + a) → v * 2 ^ a + v / 2 ^ k < 256
widened a k v e h =
    let low : v / 2 ^ k < 2 ^ a = (div-lt_iff_lt-mul (pow_pos k)).1 (rw (pow-add 2 k a, mul_comm (2 ^ k) (2 ^ a)) at h) in
    let high : suc v * 2 ^ a ≤ 2 ^ (k + a) * 2 ^ a = mul-le-mul_right (2 ^ a) h in
    let whole : 2 ^ (k + a) * 2 ^ a ≡ 256 = rw (← pow-add 2 (k + a) a, e) in
    omega (arith, suc-mul v (2 ^ a))

module _ (bits p e : ℕ) (some : 3 ≤ bits) (most : bits ≤ 7) where
  -- the two shifts of a channel with its p-bit below it
  pub p-shown : p_shown bits p e ≡ (e * 2 + p) * 2 ^ (7 - bits) + (e * 2 + p) / 2 ^ (2 * bits - 6)
  unfolding p_shown widen
  p-shown =
      let v : 2 * e + p ≡ e * 2 + p = omega arith in
      let high : 8 - (bits + 1) ≡ 7 - bits = omega arith in
      let low : 2 * (bits + 1) - 8 ≡ 2 * bits - 6 = omega arith in
      rw (v, high, low)

  -- they make a byte
  pub p-shown-byte : p < 2 → e < 2 ^ bits → p_shown bits p e < 256
  p-shown-byte bit h =
      let sum : 2 * bits - 6 + (7 - bits) ≡ suc bits = omega arith in
      let e' : 2 * bits - 6 + (7 - bits) + (7 - bits) ≡ 8 = omega arith in
      let wide : e * 2 + p < 2 ^ (2 * bits - 6 + (7 - bits)) = rw sum (omega (arith, pow-suc 2 bits)) in
      rw p-shown (widened (7 - bits) (2 * bits - 6) (e * 2 + p) e' wide)
