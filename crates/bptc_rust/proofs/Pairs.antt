-- Digits closed up to fewer bits, two neighbours at a time, by masks over the whole number.
use Prim.Native.Nat.{ℕ, zero, suc, ◌+◌, ◌-◌, ◌*◌, ◌/◌, ◌%◌, ◌^◌, ◌≤◌, ◌<◌}
use native.Mathlib.Nat.{add_comm, add_assoc, add-mul, zero-mul, mul_assoc, mul_right_comm, mod-eq_of_lt, lt_of_lt_of_le}
use native.Mathlib.Omega.{arith}
use mathlib.Core.Path.{◌≡◌, refl, sym, ap, ap₂, subst, ◌∙◌}
use mathlib.Core.List.{List, [], ◌∷◌}
use lib.Bits.{bit_and, bit_or, and_mask, and_high, and_block, or_block, or_shifted_r}
use lib.ListN.{length, replicate}
use lib.Pow.{pow_pos, pow_mono, pow-add, pow-sub-lt, ones_lt, shl_lt, shl-shr, high, low}
use Rattle.lists.specs.Bits.{split, join}
use Rattle.lists.proofs.Halves.{above_lt}
use Rattle.bptc_rust.specs.IndexList.{index_list}
use Rattle.bptc_rust.proofs.Digits.{digits, Small, split-length, split_digits, list_digits}

-- two neighbours as one digit, the second g bits up
pairs : ℕ → List ℕ → List ℕ
pairs g [] = []
pairs g (a ∷ []) = []
pairs g (a ∷ (b ∷ xs)) = (b * 2 ^ g + a) ∷ pairs g xs

-- k pairs of digits of g bits
data Paired (g : ℕ) : ℕ → List ℕ → Type 0 where
  none : Paired g 0 []
  two : {k a b : ℕ} {xs : List ℕ} → a < 2 ^ g → b < 2 ^ g → Paired g k xs → Paired g (suc k) (a ∷ (b ∷ xs))

-- the lower s bits of each 2s
unfoldable pub low_mask : ℕ → ℕ → ℕ
low_mask s zero = 0
low_mask s (suc k) = low_mask s k * 2 ^ (s + s) + (2 ^ s - 1)

-- and the upper ones
unfoldable pub high_mask : ℕ → ℕ → ℕ
high_mask s zero = 0
high_mask s (suc k) = high_mask s k * 2 ^ (s + s) + (2 ^ (s + s) - 2 ^ s)

-- a step of closing up
abbrev pub close_up : ℕ → ℕ → ℕ → ℕ → ℕ
close_up s k by n = bit_or (bit_and n (low_mask s k)) (bit_and n (high_mask s k) / 2 ^ by)

-- the first and the second of each pair
firsts : List ℕ → List ℕ
firsts [] = []
firsts (a ∷ []) = []
firsts (a ∷ (b ∷ xs)) = a ∷ firsts xs

seconds : List ℕ → List ℕ
seconds [] = []
seconds (a ∷ []) = []
seconds (a ∷ (b ∷ xs)) = b ∷ seconds xs

-- an even number of digits
paired : (g k : ℕ) (xs : List ℕ) → length xs ≡ k + k → Small g xs → Paired g k xs
paired g zero [] e h = none
paired g zero (x ∷ xs) e h = absurd (omega arith)
paired g (suc k) [] e h = absurd (omega arith)
paired g (suc k) (a ∷ []) e h = absurd (omega arith)
paired g (suc k) (a ∷ (b ∷ xs)) e h = two (h 0) (h 1) (paired g k xs (omega arith) (λ i. h (suc (suc i))))

module _ (g : ℕ) where
  -- as many pairs
  pairs_length : {k : ℕ} {xs : List ℕ} → Paired g k xs → length (pairs g xs) ≡ k
  unfolding pairs
  pairs_length none = refl
  pairs_length (two a b q) = ap suc (pairs_length q)

  -- a pair of digits
  pair_lt : {a b : ℕ} → a < 2 ^ g → b < 2 ^ g → b * 2 ^ g + a < 2 ^ (g + g)
  pair_lt {a} {b} ha hb = rw (add_comm a (b * 2 ^ g)) at (above_lt a b g g ha hb)

  -- each has twice the bits
  pairs_small : {k : ℕ} {xs : List ℕ} → Paired g k xs → Small (g + g) (pairs g xs)
  unfolding pairs
  pairs_small none i = pow_pos (g + g)
  pairs_small (two ha hb q) zero = pair_lt ha hb
  pairs_small (two ha hb q) (suc i) = pairs_small q i

-- two digits
two_up : (n s a b : ℕ) → (n * 2 ^ s + b) * 2 ^ s + a ≡ n * 2 ^ (s + s) + (b * 2 ^ s + a)
two_up n s a b = rw (pow-add, add-mul, mul_assoc, add_assoc)

-- a number is that of its pairs
grouped : (g : ℕ) {k : ℕ} {xs : List ℕ} → Paired g k xs → digits g xs ≡ digits (g + g) (pairs g xs)
unfolding digits join pairs
grouped g none = refl
grouped g (two {k} {a} {b} {xs} ha hb q) = two_up (digits g xs) g a b ∙ ap (λ (n : ℕ). n * 2 ^ (g + g) + (b * 2 ^ g + a)) (grouped g q)

module _ (g s : ℕ) (fits : g ≤ s) where
  -- a digit of g bits has room in s
  wider : {a : ℕ} → a < 2 ^ g → a < 2 ^ s
  wider h = lt_of_lt_of_le h (pow_mono fits)

  and_low : {k : ℕ} {xs : List ℕ} → Paired g k xs → bit_and (digits s xs) (low_mask s k) ≡ digits (s + s) (firsts xs)
  unfolding digits join low_mask firsts
  and_low none = refl
  and_low (two {k} {a} {b} {xs} ha hb q) =
      ap (λ (n : ℕ). bit_and n (low_mask s (suc k))) (two_up (digits s xs) s a b)
      ∙ and_block (s + s) (digits s xs) (low_mask s k) (b * 2 ^ s + a) (2 ^ s - 1) (pair_lt s (wider ha) (wider hb)) (lt_of_lt_of_le (ones_lt s) (pow_mono (omega arith)))
      ∙ ap₂ (λ (m n : ℕ). m * 2 ^ (s + s) + n) (and_low q) (and_mask (b * 2 ^ s + a) s ∙ low b s (wider ha))

  and_upper : {k : ℕ} {xs : List ℕ} → Paired g k xs → bit_and (digits s xs) (high_mask s k) ≡ digits (s + s) (seconds xs) * 2 ^ s
  unfolding digits join high_mask seconds
  and_upper none = rw zero-mul
  and_upper (two {k} {a} {b} {xs} ha hb q) =
      ap (λ (n : ℕ). bit_and n (high_mask s (suc k))) (two_up (digits s xs) s a b)
      ∙ and_block (s + s) (digits s xs) (high_mask s k) (b * 2 ^ s + a) (2 ^ (s + s) - 2 ^ s) (pair_lt s (wider ha) (wider hb)) (pow-sub-lt (s + s) (pow_pos s))
      ∙ ap₂ (λ (m n : ℕ). m * 2 ^ (s + s) + n) (and_upper q) (and_high (b * 2 ^ s + a) s s ∙ ap (λ (v : ℕ). v * 2 ^ s) (ap (λ (v : ℕ). v % 2 ^ s) (high b s (wider ha)) ∙ mod-eq_of_lt (wider hb)))
      ∙ rw (add-mul, mul_right_comm (digits (s + s) (seconds xs)) (2 ^ s) (2 ^ (s + s)))

  or_pairs : {k : ℕ} {xs : List ℕ} → Paired g k xs → bit_or (digits (s + s) (firsts xs)) (digits (s + s) (seconds xs) * 2 ^ g) ≡ digits (s + s) (pairs g xs)
  unfolding digits join pairs firsts seconds
  or_pairs none = rw zero-mul
  or_pairs (two {k} {a} {b} {xs} ha hb q) =
      let double : 2 ^ (g + g) ≤ 2 ^ (s + s) = pow_mono (omega arith) in
      ap (bit_or (digits (s + s) (firsts xs) * 2 ^ (s + s) + a)) (rw (add-mul, mul_right_comm (digits (s + s) (seconds xs)) (2 ^ (s + s)) (2 ^ g)))
      ∙ or_block (s + s) (digits (s + s) (firsts xs)) (digits (s + s) (seconds xs) * 2 ^ g) a (b * 2 ^ g) (lt_of_lt_of_le (wider ha) (pow_mono (omega arith))) (lt_of_lt_of_le (shl_lt g g hb) double)
      ∙ ap₂ (λ (m n : ℕ). m * 2 ^ (s + s) + n) (or_pairs q) (or_shifted_r b g a ha)

  shifted : (n : ℕ) → n * 2 ^ s / 2 ^ (s - g) ≡ n * 2 ^ g
  shifted n =
      let d : g + (s - g) ≡ s = omega arith in
      sym (ap (λ (k : ℕ). n * 2 ^ k / 2 ^ (s - g)) d) ∙ rw (pow-add, ← mul_assoc) (shl-shr (n * 2 ^ g) (s - g))

  -- the upper digit of each pair moved down to the lower
  closed : {k by : ℕ} {xs : List ℕ} → by ≡ s - g → Paired g k xs → close_up s k by (digits s xs) ≡ digits (s + s) (pairs g xs)
  closed {k} {by} {xs} e q = rw (e, and_low q, and_upper q, shifted (digits (s + s) (seconds xs))) (or_pairs q)

-- one digit is the number, whatever its bits
single : (s t : ℕ) (xs : List ℕ) → length xs ≡ 1 → digits s xs ≡ digits t xs
unfolding digits join
single s t (x ∷ []) e = rw (zero-mul (2 ^ s), zero-mul (2 ^ t))
single s t [] e = refl
single s t (x ∷ (y ∷ xs)) e = absurd (omega arith)

-- sixteen digits of four bits, closed up to the g bits that each of them has
module _ (g : ℕ) (few : g ≤ 4) (xs : List ℕ) (sixteen : length xs ≡ 16) (small : Small g xs) where
  narrow : close_up 32 1 (8 * (4 - g)) (close_up 16 2 (4 * (4 - g)) (close_up 8 4 (2 * (4 - g)) (close_up 4 8 (4 - g) (digits 4 xs)))) ≡ digits g xs
  narrow =
      let q₁ : Paired g 8 xs = paired g 8 xs (omega arith) small in
      let h : ℕ = g + g in
      let ys : List ℕ = pairs g xs in
      let q₂ : Paired h 4 ys = paired h 4 ys (pairs_length g q₁) (pairs_small g q₁) in
      let i : ℕ = h + h in
      let zs : List ℕ = pairs h ys in
      let q₃ : Paired i 2 zs = paired i 2 zs (pairs_length h q₂) (pairs_small h q₂) in
      let j : ℕ = i + i in
      let us : List ℕ = pairs i zs in
      let q₄ : Paired j 1 us = paired j 1 us (pairs_length i q₃) (pairs_small i q₃) in
      let step₁ : close_up 4 8 (4 - g) (digits 4 xs) ≡ digits 8 ys = closed g 4 few refl q₁ in
      let step₂ : close_up 8 4 (2 * (4 - g)) (digits 8 ys) ≡ digits 16 zs = closed h 8 (omega arith) (omega arith) q₂ in
      let step₃ : close_up 16 2 (4 * (4 - g)) (digits 16 zs) ≡ digits 32 us = closed i 16 (omega arith) (omega arith) q₃ in
      let step₄ : close_up 32 1 (8 * (4 - g)) (digits 32 us) ≡ digits 64 (pairs j us) = closed j 32 (omega arith) (omega arith) q₄ in
      ap (λ (n : ℕ). close_up 32 1 (8 * (4 - g)) (close_up 16 2 (4 * (4 - g)) (close_up 8 4 (2 * (4 - g)) n))) step₁
      ∙ ap (λ (n : ℕ). close_up 32 1 (8 * (4 - g)) (close_up 16 2 (4 * (4 - g)) n)) step₂
      ∙ ap (close_up 32 1 (8 * (4 - g))) step₃
      ∙ step₄
      ∙ single 64 (j + j) (pairs j us) (pairs_length j q₄)
      ∙ sym (grouped g q₁ ∙ grouped h q₂ ∙ grouped i q₃ ∙ grouped j q₄)

-- the index list of indices that stand in four bits each
pub narrow_list : (g n : ℕ) → g ≤ 4 → n < 2 ^ 64 → Small g (split (replicate 16 4) n) →
    close_up 32 1 (8 * (4 - g)) (close_up 16 2 (4 * (4 - g)) (close_up 8 4 (2 * (4 - g)) (close_up 4 8 (4 - g) n))) ≡ index_list g (split (replicate 16 4) n)
narrow_list g n few h small =
    let xs : List ℕ = split (replicate 16 4) n in
    let sixteen : length xs ≡ 16 = split-length 16 4 n in
    subst (λ (m : ℕ). close_up 32 1 (8 * (4 - g)) (close_up 16 2 (4 * (4 - g)) (close_up 8 4 (2 * (4 - g)) (close_up 4 8 (4 - g) m))) ≡ index_list g xs) (split_digits 16 4 n h)
    (narrow g few xs sixteen small ∙ sym (list_digits g few xs sixteen small))
