-- Laws of four columns: their sums and words from the last pixel down.
use Rattle.std.proofs.Common.{◌≡◌, ℕ, zero, suc, ◌+◌, ◌-◌, ◌*◌, ◌^◌, ◌<◌, ◌≤◌, eqb, List, [], ◌∷◌, map, get_or, ap, ◌∙◌, mod-eq_of_lt, suc-mul, arith, pow_mono, pow-add}
use lib.Bits.{bit_and, and_mask, and_zero_r}
use Rattle.lists.specs.Tests.{pick}
use Rattle.lists.specs.Rows.{up_from, sum}
use Rattle.lists.specs.Bits.{join}
use Rattle.closest.proofs.Joining.{joined_from}

-- a figure summed over the pixels from i on
abbrev pub sum_from : (ℕ → ℕ) → ℕ → ℕ
sum_from f i = sum (map f (up_from i (16 - i)))

-- one more below them
pub sum_down : (f : ℕ → ℕ) (i : ℕ) → 0 < i → i ≤ 16 → sum_from f i + f (i - 1) ≡ sum_from f (i - 1)
sum_down f i h l =
    let e : 16 - (i - 1) ≡ suc (16 - i) = omega arith in
    let d : suc (i - 1) ≡ i = omega arith in
    rw e (rw d (omega arith))

-- an index more below the indices of the pixels from i on
pub join_down : (f : ℕ → ℕ) (i : ℕ) → 0 < i → i ≤ 16 → joined_from 2 f i (16 - i) * 4 + f (i - 1) ≡ joined_from 2 f (i - 1) (16 - (i - 1))
unfolding join
join_down f i h l =
    let e : 16 - (i - 1) ≡ suc (16 - i) = omega arith in
    let d : suc (i - 1) ≡ i = omega arith in
    rw e (rw d)

-- a sum of figures up to b
pub sum_most : (f : ℕ → ℕ) (b k n : ℕ) → ((i : ℕ) → f i ≤ b) → sum (map f (up_from n k)) ≤ k * b
sum_most f b zero n h = omega arith
sum_most f b (suc k) n h = omega (arith, h n, sum_most f b k (suc n) h, suc-mul k b)

-- k indices of two bits
pub joined_lt : (f : ℕ → ℕ) → ((i : ℕ) → f i < 4) → (k n : ℕ) → joined_from 2 f n k < 2 ^ (2 * k)
unfolding join
joined_lt f h zero n = omega arith
joined_lt f h (suc k) n =
    let e : 2 * suc k ≡ 2 * k + 2 = omega arith in
    rw (e, pow-add 2 (2 * k) 2) (omega (arith, h n, joined_lt f h k (suc n)))

-- there is room for one more
pub joined_room : (f : ℕ → ℕ) → ((i : ℕ) → f i < 4) → (i : ℕ) → 0 < i → i ≤ 16 → joined_from 2 f i (16 - i) < 2 ^ 30
joined_room f h i some most =
    let l : 2 * (16 - i) ≤ 30 = omega arith in
    omega (arith, joined_lt f h (16 - i) i, pow_mono l)

-- a figure where a bit is set
pub and_ones : (x b : ℕ) → x < 2 ^ 32 → b < 2 → bit_and x (b * (2 ^ 32 - 1)) ≡ pick (eqb b 1) x 0
and_ones x zero h l = and_zero_r x
and_ones x (suc zero) h l = and_mask x 32 ∙ mod-eq_of_lt h
and_ones x (suc (suc b)) h l = absurd (omega arith)

-- four numbers of a function, from four of another
pub four-next : (g h : ℕ → ℕ) (step : ℕ → ℕ → ℕ) (xs ys : List ℕ) (a b c d : ℕ) → xs ≡ map g (up_from 0 4) →
    ys ≡ step (get_or xs 0 0) a ∷ (step (get_or xs 1 0) b ∷ (step (get_or xs 2 0) c ∷ (step (get_or xs 3 0) d ∷ []))) →
    step (g 0) a ≡ h 0 → step (g 1) b ≡ h 1 → step (g 2) c ≡ h 2 → step (g 3) d ≡ h 3 → ys ≡ map h (up_from 0 4)
four-next g h step xs ys a b c d e f ea eb ec ed =
    f ∙ ap (λ (xs : List ℕ). step (get_or xs 0 0) a ∷ (step (get_or xs 1 0) b ∷ (step (get_or xs 2 0) c ∷ (step (get_or xs 3 0) d ∷ [])))) e
    ∙ (λ t. ea t ∷ (eb t ∷ (ec t ∷ (ed t ∷ []))))

-- four numbers below a bound
pub four_below : {a b c d top : ℕ} → a < top → b < top → c < top → d < top → (k : ℕ) → get_or (a ∷ (b ∷ (c ∷ (d ∷ [])))) k 0 < top
four_below ha hb hc hd zero = ha
four_below ha hb hc hd (suc zero) = hb
four_below ha hb hc hd (suc (suc zero)) = hc
four_below ha hb hc hd (suc (suc (suc zero))) = hd
four_below ha hb hc hd (suc (suc (suc (suc k)))) = omega arith
