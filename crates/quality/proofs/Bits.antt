-- Laws of the bits behind the point of a binary logarithm, and of the whole part in front of it.
use Prim.Native.Nat.{ℕ, zero, suc, ◌+◌, ◌-◌, ◌*◌, ◌%◌, ◌^◌, ◌<◌, ◌≤◌}
use native.Mathlib.Nat.{mul-le-mul_right, mul-lt-mul_of_pos_right, mod-eq_of_lt, pow-suc}
use lib.Pow.{pow_mono}
use native.Mathlib.Omega.{arith}
use mathlib.Core.Path.{◌≡◌, refl, sym, ap, ◌∙◌}
use mathlib.Core.Logic.{⊎_elim}
use Rattle.std.proofs.lemmas.Bool.{cases_order}
use Rattle.std.proofs.lemmas.Nat.{leading_top, pow_pos, pow-add}
use Rattle.std.specs.Int.Count.{count_leading_zeros}
use Rattle.quality.specs.Psnr.{log_bit, scaled_square, log_bits, log_in}
use Rattle.quality.proofs.Squares.{bit_lt, scaled_lt, scaled_le, bit_rises, scaled_rises}

-- the first k bits of a logarithm make a number below 2^k
pub bits_lt : (k x : ℕ) → 2 ^ 63 ≤ x → x < 2 ^ 64 → log_bits k x < 2 ^ k
unfolding log_bits
bits_lt zero x low high = omega arith
bits_lt (suc k) x low high =
    let p : log_bit x ≤ 1 = omega (arith, bit_lt x high) in
    let rest = bits_lt k (scaled_square x) (scaled_le x low high) (scaled_lt x low high) in
    omega (arith, rest, pow-suc 2 k, mul-le-mul_right (2 ^ k) p)

-- of two numbers the greater has no smaller first k bits
pub bits_rise : (k x y : ℕ) → 2 ^ 63 ≤ x → x ≤ y → y < 2 ^ 64 → log_bits k x ≤ log_bits k y
unfolding log_bits
bits_rise zero x y low h high = omega arith
bits_rise (suc k) x y low h high =
    let below : x < 2 ^ 64 = omega arith in
    let above : 2 ^ 63 ≤ y = omega arith in
    let s : scaled_square x < 2 ^ 64 = scaled_lt x low below in
    let r : 2 ^ 63 ≤ scaled_square x = scaled_le x low below in
    let t : scaled_square y < 2 ^ 64 = scaled_lt y above high in
    ⊎_elim
    (λ e.
    let same : log_bit x * 2 ^ k ≡ log_bit y * 2 ^ k = ap (λ (p : ℕ). p * 2 ^ k) e in
    omega (arith, same, bits_rise k (scaled_square x) (scaled_square y) r (scaled_rises x y h e) t))
    (⊎_elim
    (λ l.
    let next : log_bit x + 1 ≤ log_bit y = omega arith in
    omega (arith, bits_lt k (scaled_square x) r s, mul-le-mul_right (2 ^ k) next))
    (λ g. absurd (omega (arith, bit_rises x y h))))
    (cases_order (log_bit x) (log_bit y))

-- the highest power of 2 in a number of 64 bits: the number is from 2^j to below 2^(j + 1), and its leading zeros tell j
pub record Top (n : ℕ) : Type 0 where
  pub j : ℕ
  pub few : j ≤ 63
  pub low : 2 ^ j ≤ n
  pub high : n < 2 ^ suc j
  pub lead : count_leading_zeros 64 n ≡ 63 - j

-- each number of 64 bits but 0 has a highest power of 2
pub top_of : (n : ℕ) → 0 < n → n < 2 ^ 64 → Top n
top_of n some fits =
    let t = leading_top 64 n some fits in
    record { j = t.0; few = omega (arith, t.1); low = t.2; high = t.3; lead = omega (arith, t.1) }

-- a number of 64 bits that is not 0 has at most 63 leading zeros
pub lead_lt : (n : ℕ) → 0 < n → n < 2 ^ 64 → count_leading_zeros 64 n ≤ 63
lead_lt n some fits = omega (arith, (top_of n some fits).lead)

module _ (n : ℕ) (t : Top n) where
  -- n shifted so that its first 1 stands at 2^63
  abbrev pub first : ℕ
  first = n * 2 ^ (63 - t.j)

  -- the power of 2 in n times the shift is 2^63
  pub sum_63 : 2 ^ t.j * 2 ^ (63 - t.j) ≡ 2 ^ 63
  sum_63 =
      let e : t.j + (63 - t.j) ≡ 63 = omega (arith, t.few) in
      sym (pow-add 2 t.j (63 - t.j)) ∙ ap (λ (k : ℕ). 2 ^ k) e

  -- the shifted number is at least 2^63
  pub first_low : 2 ^ 63 ≤ first
  first_low = rw (← sum_63) (mul-le-mul_right (2 ^ (63 - t.j)) t.low)

  -- the shifted number is below 2^64
  pub first_high : first < 2 ^ 64
  first_high =
      let e : suc t.j + (63 - t.j) ≡ 64 = omega (arith, t.few) in
      let whole : 2 ^ suc t.j * 2 ^ (63 - t.j) ≡ 2 ^ 64 = sym (pow-add 2 (suc t.j) (63 - t.j)) ∙ ap (λ (k : ℕ). 2 ^ k) e in
      rw (← whole) (mul-lt-mul_of_pos_right t.high (pow_pos (63 - t.j)))

  -- the logarithm of n is j, and the bits of the shifted number behind it
  pub log-top : (k : ℕ) → log_in k n ≡ t.j * 2 ^ k + log_bits k first
  unfolding log_in
  log-top k =
      let e : 63 - (63 - t.j) ≡ t.j = omega (arith, t.few) in
      rw (t.lead, e)

-- the first 0 bits make 0
pub bits-zero : (x : ℕ) → log_bits 0 x ≡ 0
unfolding log_bits
bits-zero x = refl

-- the first bit stands before those of the scaled square
pub bits-suc : (k x : ℕ) → log_bits (suc k) x ≡ log_bit x * 2 ^ k + log_bits k (scaled_square x)
unfolding log_bits
bits-suc k x = refl

-- before the first round: the whole part, and the bits of the shifted number, make the logarithm; the shifted number is at least 2^63
pub log_start : (n r : ℕ) → 0 < n → n < 2 ^ 64 → r ≡ 63 - count_leading_zeros 64 n →
    (r * 2 ^ 48 % 2 ^ 64 + log_bits 48 (n * 2 ^ count_leading_zeros 64 n % 2 ^ 64) ≡ log_in 48 n)
    × (2 ^ 63 ≤ n * 2 ^ count_leading_zeros 64 n % 2 ^ 64)
log_start n r some fits e =
    let t = top_of n some fits in
    let m : first n t % 2 ^ 64 ≡ first n t = mod-eq_of_lt (first_high n t) in
    let l : r ≡ t.j = omega (arith, t.lead, t.few) in
    let w : t.j * 2 ^ 48 % 2 ^ 64 ≡ t.j * 2 ^ 48 = omega (arith, t.few) in
    rw (l, t.lead, m, w) (sym (log-top n t 48), first_low n t)

-- one round: with the next bit, what is found and the bits of the scaled square still make the logarithm
pub log_next : (log i x n : ℕ) → i < 48 → x < 2 ^ 64 → log + log_bits (48 - i) x ≡ log_in 48 n →
    log + log_bit x * 2 ^ (47 - i) % 2 ^ 64 + log_bits (48 - (i + 1)) (scaled_square x) ≡ log_in 48 n
log_next log i x n h fits e =
    let p : log_bit x ≤ 1 = omega (arith, bit_lt x fits) in
    let few : 47 - i ≤ 47 = omega arith in
    let s : log_bit x * 2 ^ (47 - i) % 2 ^ 64 ≡ log_bit x * 2 ^ (47 - i) =
    mod-eq_of_lt (omega (arith, mul-le-mul_right (2 ^ (47 - i)) p, pow_mono few)) in
    let a : 48 - i ≡ suc (47 - i) = omega arith in
    let b : 48 - (i + 1) ≡ 47 - i = omega arith in
    rw (s, b) (omega (arith, rw (a, bits-suc) at e))

-- after the last round what is found is the logarithm
pub log_done : (log i x n : ℕ) → 48 ≤ i → log + log_bits (48 - i) x ≡ log_in 48 n → log ≡ log_in 48 n
log_done log i x n h e =
    let a : 48 - i ≡ 0 = omega arith in
    omega (arith, rw (a, bits-zero) at e)

-- a logarithm of 48 bits behind the point is below 2^54
pub log_small : (n : ℕ) → 0 < n → n < 2 ^ 64 → log_in 48 n < 2 ^ 54
log_small n some fits =
    let t = top_of n some fits in
    omega (arith, log-top n t 48, t.few, bits_lt 48 (first n t) (first_low n t) (first_high n t))
