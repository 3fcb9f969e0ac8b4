-- Sums over subsets: what lies in each of n subsets makes the whole.
use Prim.Native.Nat.{ℕ, zero, suc, ◌+◌, ◌≤◌, ◌<◌}
use mathlib.Core.Path.{◌≡◌, refl, ◌∙◌, sym, ap}
use mathlib.Core.Bool.{Bool, true, false}
use mathlib.Core.List.{map}
use native.Mathlib.Nat.{zero-add, add-zero}
use native.Mathlib.Omega.{arith}
use lib.Dec.{eqb, ltb}
use borrow.Author.Tests.{eqb-true, eqb-false, ltb-true, ltb-false, lt-ltb, le-ltb}
use Rattle.lists.specs.Tests.{pick}
use Rattle.lists.specs.Rows.{up_from, sum, over_pixels}
use Rattle.lists.proofs.Sums.{pixels-same, pixels-add, pixels-none}

-- one of the numbers from k on is t
once : (v t : ℕ) (n k : ℕ) → t < k + n → sum (map (λ (s : ℕ). pick (eqb t s) v 0) (up_from k n)) ≡ pick (ltb t k) 0 v
once v t zero k h = go (ltb t k) refl
  where
    go : (b : Bool) → ltb t k ≡ b → 0 ≡ pick b 0 v
    go true e = refl
    go false e = absurd (omega (arith, ltb-false t k e))
once v t (suc n) k h = go (eqb t k) refl (once v t n (suc k) (omega arith))
  where
    go : (b : Bool) → eqb t k ≡ b → sum (map (λ (s : ℕ). pick (eqb t s) v 0) (up_from (suc k) n)) ≡ pick (ltb t (suc k)) 0 v →
        pick b v 0 + sum (map (λ (s : ℕ). pick (eqb t s) v 0) (up_from (suc k) n)) ≡ pick (ltb t k) 0 v
    go true e rest =
        let q : t ≡ k = eqb-true t k e in
        rw (rest, lt-ltb t (suc k) (omega arith), le-ltb t k (omega arith)) (add-zero v)
    go false e rest = rw rest (zero-add _ ∙ same (ltb t k) refl)
      where
        same : (b : Bool) → ltb t k ≡ b → pick (ltb t (suc k)) 0 v ≡ pick b 0 v
        same true f = rw (lt-ltb t (suc k) (omega (arith, ltb-true t k f)))
        same false f =
            let ne : t ≡ k → ⊥ = eqb-false t k e in
            rw (le-ltb t (suc k) (omega (arith, ltb-false t k f)))

-- sums over subsets and over pixels change places
swap : (f : ℕ → ℕ → ℕ) (n k : ℕ) → over_pixels (λ (i : ℕ). sum (map (λ (s : ℕ). f s i) (up_from k n))) ≡ sum (map (λ (s : ℕ). over_pixels (f s)) (up_from k n))
swap f zero k = pixels-none _ (λ i h. refl)
swap f (suc n) k = pixels-add (f k) (λ (i : ℕ). sum (map (λ (s : ℕ). f s i) (up_from (suc k) n))) ∙ ap (λ (x : ℕ). over_pixels (f k) + x) (swap f n (suc k))

-- what lies in each of n subsets makes the whole
pub pixels-split : (f s : ℕ → ℕ) (n : ℕ) → ((i : ℕ) → i < 16 → s i < n) →
    over_pixels f ≡ sum (map (λ (t : ℕ). over_pixels (λ (i : ℕ). pick (eqb (s i) t) (f i) 0)) (up_from 0 n))
pixels-split f s n below =
    pixels-same f _
    (λ i h. sym (once (f i) (s i) n 0 (omega (arith, below i h)) ∙ ap (λ (b : Bool). pick b 0 (f i)) (le-ltb (s i) 0 (omega arith))))
    ∙ swap (λ (t i : ℕ). pick (eqb (s i) t) (f i) 0) n 0

le_from : (f g : ℕ → ℕ) (k n : ℕ) → ((i : ℕ) → i < n + k → f i ≤ g i) → sum (map f (up_from n k)) ≤ sum (map g (up_from n k))
le_from f g zero n h = omega arith
le_from f g (suc k) n h = omega (arith, h n (omega arith), le_from f g k (suc n) (λ i l. h i (omega arith)))

-- a figure that is no larger in any subset
pub subsets_le : (f g : ℕ → ℕ) (n : ℕ) → ((s : ℕ) → s < n → f s ≤ g s) → sum (map f (up_from 0 n)) ≤ sum (map g (up_from 0 n))
subsets_le f g n h = le_from f g n 0 (λ i l. h i (omega arith))
