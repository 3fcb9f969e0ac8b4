-- Laws of the peak signal-to-noise ratio: it falls with the total.
use Prim.Native.Nat.{ℕ, suc, ◌+◌, ◌-◌, ◌*◌, ◌/◌, ◌^◌, ◌<◌, ◌≤◌}
use native.Mathlib.Nat.{mul-le-mul_right, le-div_iff_mul-le, div-mul-le_self}
use native.Mathlib.Omega.{arith}
use lib.Pow.{pow_mono}
use mathlib.Core.Path.{◌≡◌, refl, ap}
use mathlib.Core.Logic.{⊎_elim}
use borrow.Author.Tests.{ne_eqb}
use Rattle.std.specs.Prelude.{Option, Some, None}
use Rattle.std.proofs.lemmas.Bool.{cases_lt, cases_order}
use Rattle.quality.specs.Psnr.{log_in, psnr_of, NoHigher, FallsWithTotal, ExactAlone, NoSignal}
use Rattle.quality.proofs.Bits.{Top, top_of, first, first_low, first_high, log-top, bits_lt, bits_rise}

-- two numbers in order, with the highest power of 2 in each
module _ (k n m : ℕ) (h : n ≤ m) (s : Top n) (t : Top m) where
  -- the logarithm of the greater is no smaller
  log_order : log_in k n ≤ log_in k m
  log_order =
      ⊎_elim
      (λ e.
      let x : first n s ≤ first m t = rw e (mul-le-mul_right (2 ^ (63 - t.j)) h) in
      let w : s.j * 2 ^ k ≡ t.j * 2 ^ k = ap (λ (j : ℕ). j * 2 ^ k) e in
      omega (arith, log-top n s k, log-top m t k, w, bits_rise k (first n s) (first m t) (first_low n s) x (first_high m t)))
      (⊎_elim
      (λ l.
      let next : s.j + 1 ≤ t.j = omega arith in
      omega (arith, log-top n s k, log-top m t k, bits_lt k (first n s) (first_low n s) (first_high n s), mul-le-mul_right (2 ^ k) next))
      (λ g.
      let next : suc t.j ≤ s.j = omega arith in
      absurd (omega (arith, s.low, t.high, pow_mono next))))
      (cases_order s.j t.j)

-- of two numbers of 64 bits but 0 the greater has no smaller logarithm
pub log_rises : (k n m : ℕ) → 0 < n → n ≤ m → m < 2 ^ 64 → log_in k n ≤ log_in k m
log_rises k n m some h fits = log_order k n m h (top_of n some (omega arith)) (top_of m (omega arith) fits)

-- what is between two binary logarithms, in hundredths of a decibel
unfoldable pub rate : ℕ → ℕ
rate apart = (apart * 5553023288523357132280 + 2 ^ 111) / 2 ^ 112

-- the ratio for a total that is not 0 is the rate of what is between the logarithms
pub some-ratio : (total values : ℕ) → 0 < total → psnr_of total values ≡ Some (rate (log_in 48 (65025 * values) - log_in 48 total))
unfolding psnr_of rate
some-ratio total values some = rw (ne_eqb total 0 (λ z. omega arith))

-- there is no ratio for a total of 0
none-ratio : (values : ℕ) → psnr_of 0 values ≡ None
unfolding psnr_of
none-ratio values = refl

-- every ratio is no higher than none
none_above : (p : Option ℕ) → NoHigher p None
none_above None = tt
none_above (Some a) = tt

-- a rate rises with what is between the logarithms
rate_rises : (a b : ℕ) → a ≤ b → rate a ≤ rate b
unfolding rate
rate_rises a b h = (le-div_iff_mul-le (omega arith)).1 (omega (arith, div-mul-le_self (a * 5553023288523357132280 + 2 ^ 111) (2 ^ 112)))

-- the ratio falls with the total
pub falls_with_total : FallsWithTotal
falls_with_total total more values h fits =
    ⊎_elim
    (λ some.
    let l = log_rises 48 total more some h fits in
    rw (some-ratio total values some, some-ratio more values (omega arith))
    (rate_rises (log_in 48 (65025 * values) - log_in 48 more) (log_in 48 (65025 * values) - log_in 48 total) (omega arith)))
    (λ none.
    let z : total ≡ 0 = omega arith in
    rw (z, none-ratio values) (none_above (psnr_of more values)))
    (cases_lt 0 total)

-- a picture without an error, and no other, has no ratio
pub exact_alone : ExactAlone
exact_alone values = (none-ratio values, λ total some e. absurd (cc (some-ratio total values some)))

-- a picture that is wrong by 255 everywhere has a ratio of 0
pub no_signal : NoSignal
unfolding rate
no_signal values some =
    let e : log_in 48 (65025 * values) - log_in 48 (65025 * values) ≡ 0 = omega arith in
    rw (some-ratio (65025 * values) values (omega arith), e) refl
