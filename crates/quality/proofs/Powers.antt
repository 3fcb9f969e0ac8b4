-- Laws of powers, for logarithms.
use Prim.Native.Nat.{ℕ, zero, suc, ◌+◌, ◌-◌, ◌*◌, ◌^◌, ◌<◌, ◌≤◌}
use native.Mathlib.Nat.{mul-le-mul_left, mul-le-mul_right, le_of_mul-le-mul_right, pow-le-pow_left, pow-le-pow_right, pow-lt-pow_left, pow-suc, pow-zero, mul-zero}
use native.Mathlib.Omega.{arith}
use mathlib.Core.Path.{◌≡◌, sym, ap, ◌∙◌}
use mathlib.Core.Logic.{⊎_elim}
use Rattle.std.proofs.lemmas.Bool.{cases_lt}
use Rattle.std.proofs.lemmas.Nat.{pow-add, mul-pow}

-- the power of a number to 2^0 is the number
pub pow-one : (x : ℕ) → x ^ 2 ^ 0 ≡ x
pow-one x =
    let e : x ^ 2 ^ 0 ≡ x ^ 0 * x = pow-suc x 0 in
    rw (e, pow-zero) (omega arith)

-- the power of a power is that to the product of the exponents
pub pow-pow : (a m k : ℕ) → (a ^ m) ^ k ≡ a ^ (m * k)
pow-pow a m zero = rw (pow-zero, mul-zero, pow-zero)
pow-pow a m (suc k) =
    let e : m * suc k ≡ m * k + m = omega arith in
    rw (e, pow-suc (a ^ m) k, pow-pow a m k) (sym (pow-add a (m * k) m))

-- the power of a number to 2^(k + 1) is the square of that to 2^k
pub pow-twice : (x k : ℕ) → x ^ 2 ^ suc k ≡ x ^ 2 ^ k * x ^ 2 ^ k
pow-twice x k =
    let e : 2 ^ suc k ≡ 2 ^ k + 2 ^ k = omega (arith, pow-suc 2 k) in
    rw (e, pow-add)

-- the power of a number to 2^(k + 1) is that of its square to 2^k
pub pow-square : (x k : ℕ) → x ^ 2 ^ suc k ≡ (x * x) ^ 2 ^ k
pow-square x k = pow-twice x k ∙ sym (mul-pow x x (2 ^ k))

-- the power of a power is the same with the exponents exchanged
pub pow-swap : (a m k : ℕ) → (a ^ m) ^ k ≡ (a ^ k) ^ m
pow-swap a m k =
    let e : m * k ≡ k * m = omega arith in
    pow-pow a m k ∙ ap (λ (i : ℕ). a ^ i) e ∙ sym (pow-pow a k m)

-- two numbers are in the order of their equal powers
pub pow_order : (a b k : ℕ) → 0 < k → a ^ k ≤ b ^ k → a ≤ b
pow_order a b k some h =
    ⊎_elim
    (λ l. absurd (omega (arith, pow-lt-pow_left {n = k} l (λ z. omega arith))))
    (λ l. l)
    (cases_lt b a)

-- powers of two numbers are in the order of one pair of their powers, where the exponents are in the same ratio or beyond it
pub pow_across : (c d m n f x : ℕ) → 0 < d → 0 < m → c ^ m ≤ d ^ n → n * f ≤ m * x → c ^ f ≤ d ^ x
pow_across c d m n f x low some h l =
    let e : m * x ≡ x * m = omega arith in
    let first : (c ^ f) ^ m ≤ d ^ (n * f) = rw (pow-swap c f m, ← pow-pow d n f) (pow-le-pow_left h f) in
    let second : d ^ (n * f) ≤ (d ^ x) ^ m = rw (pow-pow d x m, ← e) (pow-le-pow_right low l) in
    pow_order (c ^ f) (d ^ x) m some (omega (arith, first, second))

-- the power of a + 1 is at most that of a times a / d, where d is a less the exponent
rest_power : (a m d : ℕ) → m + d ≡ a → (a + 1) ^ m * d ≤ a ^ m * a
rest_power a zero d e = rw (pow-zero a, pow-zero (a + 1)) (omega arith)
rest_power a (suc m) d e =
    let l : (a + 1) * d ≤ a * (d + 1) = omega arith in
    let h = rest_power a m (d + 1) (omega arith) in
    rw (pow-suc a m, pow-suc (a + 1) m) (omega (arith, mul-le-mul_right a h, mul-le-mul_left ((a + 1) ^ m) l))

-- the power of a + 1 is at most twice that of a, where the exponent is at most a / 2
pub near_power : (a m : ℕ) → 0 < a → m + m ≤ a → (a + 1) ^ m ≤ 2 * a ^ m
near_power a m some h =
    let d : ℕ = a - m in
    let l : a ≤ 2 * d = omega arith in
    let p : 0 < d = omega arith in
    le_of_mul-le-mul_right {k = d} (omega (arith, rest_power a m d (omega arith), mul-le-mul_left (a ^ m) l)) p
