-- Laws of sums over the first numbers.
use Prim.Native.Nat.{ℕ, zero, suc, ◌+◌, ◌-◌, ◌*◌, ◌≤◌, ◌<◌}
use native.Mathlib.Nat.{add-zero, add-suc, zero-mul, suc-mul}
use native.Mathlib.Numerals.{add-one}
use native.Mathlib.Omega.{arith}
use mathlib.Core.Path.{◌≡◌, refl, sym, ap, ap₂, ◌∙◌}
use lib.Dec.{ltb}
use borrow.Author.Tests.{lt-ltb, le-ltb}
use Rattle.lists.specs.Rows.{sum, sum_to}
use Rattle.lists.specs.Tests.{pick}
use Rattle.lists.proofs.Rows.{each_same}
use Rattle.lists.proofs.Sums.{sum_to-suc}

-- one number more
to_next : (f : ℕ → ℕ) (n : ℕ) → sum_to f (suc n) ≡ sum_to f n + f n
to_next f n = rw add-one at (sum_to-suc f n)

-- the same figure at each
pub to_same : (f g : ℕ → ℕ) (n : ℕ) → ((i : ℕ) → i < n → f i ≡ g i) → sum_to f n ≡ sum_to g n
to_same f g n h = ap sum (each_same 0 f g n h)

-- a figure that is no larger at any
pub to_le : (f g : ℕ → ℕ) (n : ℕ) → ((i : ℕ) → i < n → f i ≤ g i) → sum_to f n ≤ sum_to g n
to_le f g zero h = omega arith
to_le f g (suc n) h = omega (arith, to_next f n, to_next g n, h n (omega arith), to_le f g n (λ i l. h i (omega arith)))

-- 0 at each
pub to_zero : (n : ℕ) → sum_to (λ (i : ℕ). 0) n ≡ 0
to_zero zero = refl
to_zero (suc n) = to_next (λ (i : ℕ). 0) n ∙ omega (arith, to_zero n)

-- two figures
to_both : (f g : ℕ → ℕ) (n : ℕ) → sum_to (λ (i : ℕ). f i + g i) n ≡ sum_to f n + sum_to g n
to_both f g zero = refl
to_both f g (suc n) = omega (arith, to_next f n, to_next g n, to_next (λ (i : ℕ). f i + g i) n, to_both f g n)

-- the numbers of two ranges
pub to-add : (f : ℕ → ℕ) (m n : ℕ) → sum_to f (m + n) ≡ sum_to f m + sum_to (λ (i : ℕ). f (m + i)) n
to-add f m zero = ap (sum_to f) (add-zero m) ∙ sym (add-zero (sum_to f m))
to-add f m (suc n) =
    rw add-suc (omega (arith, to_next f (m + n), to-add f m n, to_next (λ (i : ℕ). f (m + i)) n))

-- m ranges of n numbers each
pub to_ranges : (f : ℕ → ℕ) (m n : ℕ) → sum_to f (m * n) ≡ sum_to (λ (k : ℕ). sum_to (λ (i : ℕ). f (k * n + i)) n) m
to_ranges f zero n = rw zero-mul
to_ranges f (suc m) n =
    rw suc-mul
    (to-add f (m * n) n
    ∙ omega (arith, to_ranges f m n, to_next (λ (k : ℕ). sum_to (λ (i : ℕ). f (k * n + i)) n) m))

-- over one range for each number of another, in either order
pub to_exchanged : (f : ℕ → ℕ → ℕ) (m n : ℕ) →
    sum_to (λ (y : ℕ). sum_to (f y) n) m ≡ sum_to (λ (x : ℕ). sum_to (λ (y : ℕ). f y x) m) n
to_exchanged f zero n = sym (to_zero n)
to_exchanged f (suc m) n =
    to_next (λ (y : ℕ). sum_to (f y) n) m
    ∙ ap (λ (s : ℕ). s + sum_to (f m) n) (to_exchanged f m n)
    ∙ sym (to_both (λ (x : ℕ). sum_to (λ (y : ℕ). f y x) m) (f m) n)
    ∙ to_same _ _ n (λ x l. sym (to_next (λ (y : ℕ). f y x) m))

-- a longer range, of which only the first m count
pub to_within : (f : ℕ → ℕ) (m n : ℕ) → m ≤ n → sum_to (λ (i : ℕ). pick (ltb i m) (f i) 0) n ≡ sum_to f m
to_within f m n h =
    let rest : m + (n - m) ≡ n = omega arith in
    rw (← rest)
    (to-add (λ (i : ℕ). pick (ltb i m) (f i) 0) m (n - m)
    ∙ ap₂ ◌+◌
    (to_same _ f m (λ i l. rw (lt-ltb i m l)))
    (to_same _ (λ (i : ℕ). 0) (n - m) (λ i l. rw (le-ltb (m + i) m (omega arith))) ∙ to_zero (n - m))
    ∙ add-zero (sum_to f m))
