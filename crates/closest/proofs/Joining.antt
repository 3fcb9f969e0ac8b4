-- Laws of digits that are joined from the last one down, in two halves.
use Prim.Native.Nat.{ℕ, zero, suc, ◌+◌, ◌-◌, ◌*◌, ◌%◌, ◌^◌, ◌≤◌, ◌<◌}
use native.Mathlib.Nat.{add-zero, zero-add, suc-add, one-mul, mul-zero, mul-suc, suc-mul, mul-add, add-mul, mul_assoc, mul-le-mul, mul-le-mul_right, mod-lt, mod-eq_of_lt}
use native.Mathlib.Numerals.{add-one}
use native.Mathlib.Omega.{arith}
use mathlib.Core.Path.{◌≡◌}
use mathlib.Core.List.{map}
use lib.ListN.{replicate}
use lib.Pow.{pow-add, pow_mono, pow_pos}
use Rattle.lists.specs.Rows.{up_from}
use Rattle.lists.specs.Bits.{join}

-- k digits of w bits from digit n on
abbrev pub joined_from : ℕ → (ℕ → ℕ) → ℕ → ℕ → ℕ
joined_from w f n k = join (replicate k w) (map f (up_from n k))

-- one more below them
pub joined-next : (w : ℕ) (f : ℕ → ℕ) (top i : ℕ) → i < top →
    joined_from w f (top - i) i * 2 ^ w + f (top - 1 - i) ≡ joined_from w f (top - (i + 1)) (i + 1)
unfolding join
joined-next w f top i h =
    let e : top - i ≡ suc (top - 1 - i) = omega arith in
    let d : top - (i + 1) ≡ top - 1 - i = omega arith in
    rw (e, d, add-one i)

-- a power of two as a shift makes it
pub power_is : (w : ℕ) → w ≤ 4 → 1 * 2 ^ w % 2 ^ 32 ≡ 2 ^ w
power_is w h =
    let small : 2 ^ w ≤ 2 ^ 4 = pow_mono h in
    rw one-mul (mod-eq_of_lt (omega arith))

-- one digit more fits below those that it goes with, and there are eight at most
pub digit_next : (w i n x : ℕ) → w ≤ 4 → i < 8 → n < 2 ^ (w * i) → (n * 2 ^ w + x % 2 ^ w < 2 ^ (w * (i + 1))) × (n * 2 ^ w + x % 2 ^ w < 2 ^ 32)
digit_next w i n x h l s =
    let e : w * (i + 1) ≡ w * i + w = omega (arith, mul-add w i 1) in
    let most : w * (i + 1) ≤ 32 = mul-le-mul {n₂ = 4} {m₂ = 8} h (omega arith) in
    let p : 2 ^ (w * (i + 1)) ≡ 2 ^ (w * i) * 2 ^ w = rw e (pow-add 2 (w * i) w) in
    let r : suc n * 2 ^ w ≤ 2 ^ (w * i) * 2 ^ w = mul-le-mul_right (2 ^ w) s in
    let d : x % 2 ^ w < 2 ^ w = mod-lt x (pow_pos w) in
    let below : n * 2 ^ w + x % 2 ^ w < 2 ^ (w * (i + 1)) = omega (arith, suc-mul n (2 ^ w)) in
    let top : 2 ^ (w * (i + 1)) ≤ 2 ^ 32 = pow_mono most in
    (below, omega arith)

-- eight digits, and eight above them, fit into 64 bits
pub halves_room : (w lo hi : ℕ) → w ≤ 4 → lo < 2 ^ (w * 8) → hi < 2 ^ (w * 8) →
    (lo < 2 ^ 32) × (hi < 2 ^ 32) × (hi * 2 ^ (8 * w) < 2 ^ 64) × (lo + hi * 2 ^ (8 * w) < 2 ^ 64)
halves_room w lo hi h k l =
    let n : 8 * w ≡ w * 8 = omega arith in
    let small : w * 8 ≤ 32 = omega arith in
    let p : 2 ^ (w * 8) ≤ 2 ^ 32 = pow_mono small in
    let r : suc hi * 2 ^ (w * 8) ≤ 2 ^ 32 * 2 ^ 32 = mul-le-mul {n₂ = 2 ^ 32} {m₂ = 2 ^ 32} (omega arith) p in
    rw n (omega arith, omega arith, omega (arith, suc-mul hi (2 ^ (w * 8))), omega (arith, suc-mul hi (2 ^ (w * 8))))

-- digits, and more above them
joined-more : (w : ℕ) (f : ℕ → ℕ) (a n b : ℕ) → joined_from w f n a + joined_from w f (n + a) b * 2 ^ (w * a) ≡ joined_from w f n (a + b)
unfolding join
joined-more w f zero n b = rw (add-zero n, mul-zero w, zero-add b) (omega arith)
joined-more w f (suc a) n b =
    let e : n + suc a ≡ suc n + a = omega arith in
    let p : 2 ^ (w * suc a) ≡ 2 ^ (w * a) * 2 ^ w = rw (mul-suc w a) (pow-add 2 (w * a) w) in
    let more : joined_from w f (suc n) a + joined_from w f (suc n + a) b * 2 ^ (w * a) ≡ joined_from w f (suc n) (a + b) = joined-more w f a (suc n) b in
    rw (e, p, suc-add a b, ← more)
    (omega (
      arith,
      add-mul (joined_from w f (suc n) a) (joined_from w f (suc n + a) b * 2 ^ (w * a)) (2 ^ w),
      mul_assoc (joined_from w f (suc n + a) b) (2 ^ (w * a)) (2 ^ w),
    ))

-- eight digits, and eight above them
pub joined-halves : (w : ℕ) (f : ℕ → ℕ) → joined_from w f 0 8 + joined_from w f 8 8 * 2 ^ (w * 8) ≡ joined_from w f 0 16
joined-halves w f = joined-more w f 8 0 8
