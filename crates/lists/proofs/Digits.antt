-- Laws of binary digits: the two counts are those of the machine, and a number's lowest 1.
use Prim.Native.Nat.{ℕ, zero, suc, ◌+◌, ◌-◌, ◌*◌, ◌/◌, ◌%◌, ◌^◌, ◌≤◌, ◌<◌}
use native.Mathlib.Nat.{div-lt_iff_lt-mul, pow-suc}
use native.Mathlib.Numerals.{add-one, one-add}
use native.Mathlib.Omega.{arith}
use mathlib.Core.Path.{◌≡◌, refl, ap, ◌∙◌}
use mathlib.Core.Bool.{Bool, true, false}
use lib.Bits.{bit_and, and_high}
use lib.Dec.{lit<, eqb}
use lib.Count.{ones, ones_in, ones_step, count_trailing_zeros, under}
use lib.Pow.{mod-pow-add}
use borrow.Author.Tests.{eqb-true, eqb-false}
use Rattle.lists.specs.Tests.{pick}
use Rattle.lists.specs.Digits.{bit, zeros_below}
use Rattle.lists.specs.Internal.Ones.{ones_below}
use Rattle.lists.proofs.Tests.{pick_elim}

half : (k n : ℕ) → n < 2 ^ suc k → n / 2 < 2 ^ k
half k n h = (div-lt_iff_lt-mul (lit< tt)).1 (rw pow-suc at h)

-- `count_ones` of a number of k bits
pub ones_is : (k n : ℕ) → n < 2 ^ k → ones n ≡ ones_below k n
unfolding ones_below ones ones_in
ones_is zero n h =
    let e : n ≡ 0 = omega arith in
    rw e
ones_is (suc k) n h = ones_step n ∙ ap (λ (x : ℕ). n % 2 + x) (ones_is k (n / 2) (half k n h))

-- `trailing_zeros` of a number of k bits
pub zeros_is : (k n : ℕ) → count_trailing_zeros k n ≡ zeros_below k n
unfolding count_trailing_zeros zeros_below
zeros_is zero n = refl
zeros_is (suc k) n = go (n % 2) (omega arith) (zeros_is k (n / 2))
  where
    go : (d : ℕ) → d < 2 → count_trailing_zeros k (n / 2) ≡ zeros_below k (n / 2) → under d (count_trailing_zeros k (n / 2)) ≡ pick (eqb d 1) 0 (suc (zeros_below k (n / 2)))
    go zero h e = ap suc e
    go (suc zero) h e = refl
    go (suc (suc d)) h e = absurd (omega arith)

-- at most all of them
pub zeros_le : (k n : ℕ) → zeros_below k n ≤ k
unfolding zeros_below
zeros_le zero n = omega arith
zeros_le (suc k) n = pick_elim (λ (z : ℕ). z ≤ suc k) (eqb (n % 2) 1) (λ t. omega arith) (λ t. omega (arith, zeros_le k (n / 2)))

-- a number without a 1
pub zeros-zero : (k : ℕ) → zeros_below k 0 ≡ k
unfolding zeros_below
zeros-zero zero = refl
zeros-zero (suc k) = ap suc (zeros-zero k)

halved : (b k : ℕ) → b % 2 ^ suc (suc k) ≡ (b / 2 % 2 ^ suc k) * 2 + b % 2
halved b k = rw add-one at (mod-pow-add b (suc k) 1)

-- a number whose lowest 1 is digit k
pub zeros_of : (d k b : ℕ) → k < d → b % 2 ^ suc k ≡ 2 ^ k → zeros_below d b ≡ k
unfolding zeros_below
zeros_of zero k b h e = absurd (omega arith)
zeros_of (suc d) zero b h e = rw e
zeros_of (suc d) (suc k) b h e =
    let even : b % 2 ≡ 0 = omega (arith, halved b k, pow-suc 2 k) in
    rw even (ap suc (zeros_of d k (b / 2) (omega arith) (omega (arith, halved b k, pow-suc 2 k))))

-- and back: the digits up to the lowest 1
pub low_of : (d b : ℕ) → zeros_below d b < d → b % 2 ^ suc (zeros_below d b) ≡ 2 ^ zeros_below d b
unfolding zeros_below
low_of zero b h = absurd (omega arith)
low_of (suc d) b h = go (eqb (b % 2) 1) (zeros_below d (b / 2)) refl h (low_of d (b / 2))
  where
    go : (t : Bool) (z : ℕ) → eqb (b % 2) 1 ≡ t → pick t 0 (suc z) < suc d → (z < d → b / 2 % 2 ^ suc z ≡ 2 ^ z) →
        b % 2 ^ suc (pick t 0 (suc z)) ≡ 2 ^ pick t 0 (suc z)
    go true z e l ih = eqb-true (b % 2) 1 e
    go false z e l ih = omega (arith, halved b z, pow-suc 2 z, ih (omega arith), eqb-false (b % 2) 1 e)

-- one digit, at its place
pub and-bit : (n k : ℕ) → bit_and n (2 ^ k) ≡ bit n k * 2 ^ k
and-bit n k =
    let e : 2 ^ (1 + k) - 2 ^ k ≡ 2 ^ k = rw one-add (omega (arith, pow-suc 2 k)) in
    rw e at (and_high n 1 k)
