-- The top bit of an index, found by its mask; and the digits that a mask flips.
use Prim.Native.Nat.{ℕ, zero, suc, ◌+◌, ◌-◌, ◌*◌, ◌/◌, ◌%◌, ◌^◌, ◌≤◌, ◌<◌}
use native.Mathlib.Nat.{add_comm, zero-mul, mod-eq_of_lt, div-eq_of_lt, le-div_iff_mul-le, mul-le-mul_right}
use native.Mathlib.Omega.{arith}
use mathlib.Core.Path.{◌≡◌, refl, sym, ap, ap₂, ◌∙◌}
use mathlib.Core.Bool.{Bool, true, false, not}
use mathlib.Core.List.{List, map}
use lib.Bits.{bit_and, bit_xor, and_mask, and_high, xor_block, xor_add_and}
use lib.Dec.{leb}
use lib.Pow.{pow_pos, pow-add, shr-shr, field}
use lib.ListN.{get_or}
use borrow.Author.Tests.{leb-true, leb-false, eq-eqb, ne_eqb}
use Rattle.lists.specs.Rows.{up_from}
use Rattle.lists.specs.Bits.{join}
use Rattle.bptc_rust.specs.Words.{shl, differs}
use Rattle.bptc_rust.proofs.Digits.{digits, Small, one_shl, digit_at, room}

-- digit by digit
module _ (I : ℕ) (X M R : ℕ → ℕ) (hx : (i : ℕ) → X i < 2 ^ I) (hm : (i : ℕ) → M i < 2 ^ I) (same : (i : ℕ) → bit_xor (X i) (M i) ≡ R i) where
  -- the xor of two numbers
  pub xor_digits : (k n : ℕ) → bit_xor (digits I (map X (up_from n k))) (digits I (map M (up_from n k))) ≡ digits I (map R (up_from n k))
  unfolding digits join
  xor_digits zero n = refl
  xor_digits (suc k) n =
      xor_block I (digits I (map X (up_from (suc n) k))) (digits I (map M (up_from (suc n) k))) (X n) (M n) (hx n) (hm n)
      ∙ ap₂ (λ (a b : ℕ). a * 2 ^ I + b) (xor_digits k (suc n)) (same n)

-- a digit against all ones
pub xor_ones : (I v : ℕ) → v < 2 ^ I → bit_xor v (2 ^ I - 1) ≡ 2 ^ I - 1 - v
xor_ones I v h = omega (arith, xor_add_and v (2 ^ I - 1), and_mask v I, mod-eq_of_lt h)

and-bit : (n k : ℕ) → bit_and n (2 ^ k) ≡ n / 2 ^ k % 2 * 2 ^ k
and-bit n k =
    let e : 2 ^ (1 + k) - 2 ^ k ≡ 2 ^ k = rw (pow-add 2 1 k) (omega arith) in
    rw e at (and_high n 1 k)

-- the test of a digit's top bit
pub msb : (I : ℕ) → I ≤ 4 → (xs : List ℕ) (i : ℕ) → i < 16 → 0 < I → Small I xs →
    differs (bit_and (digits I xs) (shl 64 1 (I - 1 + i * I))) 0 ≡ leb (2 ^ (I - 1)) (get_or xs i 0)
msb I narrow xs i l pos h =
    let k : ℕ = I - 1 + i * I in
    rw (one_shl 64 k (omega (arith, room I narrow i l)), and-bit (digits I xs) k, bit) (go (leb (2 ^ (I - 1)) d) refl)
  where
    d : ℕ
    d = get_or xs i 0

    bit : digits I xs / 2 ^ (I - 1 + i * I) % 2 ≡ d / 2 ^ (I - 1)
    bit =
        let e : 1 + (I - 1) ≡ I = omega arith in
        ap (λ (x : ℕ). digits I xs / 2 ^ x % 2) (add_comm (I - 1) (i * I))
        ∙ ap (λ (x : ℕ). x % 2) (sym (shr-shr (digits I xs) (i * I) (I - 1)))
        ∙ sym (field (digits I xs / 2 ^ (i * I)) 1 (I - 1))
        ∙ ap (λ (x : ℕ). digits I xs / 2 ^ (i * I) % 2 ^ x / 2 ^ (I - 1)) e
        ∙ ap (λ (x : ℕ). x / 2 ^ (I - 1)) (digit_at I xs i h)

    go : (u : Bool) → leb (2 ^ (I - 1)) d ≡ u → differs (d / 2 ^ (I - 1) * 2 ^ (I - 1 + i * I)) 0 ≡ u
    go true e =
        let one : 1 ≤ d / 2 ^ (I - 1) = (le-div_iff_mul-le (pow_pos (I - 1))).1 (omega (arith, leb-true (2 ^ (I - 1)) d e)) in
        let most : 1 * 2 ^ (I - 1 + i * I) ≤ d / 2 ^ (I - 1) * 2 ^ (I - 1 + i * I) = mul-le-mul_right (2 ^ (I - 1 + i * I)) one in
        ap not (ne_eqb (d / 2 ^ (I - 1) * 2 ^ (I - 1 + i * I)) 0 (λ z. omega (arith, pow_pos (I - 1 + i * I))))
    go false e =
        let none : d / 2 ^ (I - 1) ≡ 0 = div-eq_of_lt (leb-false _ _ e) in
        ap not (eq-eqb (d / 2 ^ (I - 1) * 2 ^ (I - 1 + i * I)) 0 (rw (none, zero-mul)))
