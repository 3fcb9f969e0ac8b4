-- Laws of sums over the sixteen pixels.
use Prim.Native.Nat.{ℕ, zero, suc, ◌+◌, ◌*◌, ◌≤◌, ◌<◌}
use mathlib.Core.Path.{◌≡◌, refl, ap, ◌∙◌}
use mathlib.Core.List.{List, [], ◌∷◌, ◌++◌, map}
use native.Mathlib.Nat.{zero-add, add-zero, add-suc, suc-add}
use native.Mathlib.Numerals.{add-one}
use native.Mathlib.Omega.{arith}
use lib.Dec.{eqb}
use borrow.Author.Tests.{eqb-true, eqb-false}
use Rattle.lists.specs.Tests.{pick}
use Rattle.lists.specs.Rows.{up_from, sum, sum_to, over_pixels}
use Rattle.lists.proofs.Tests.{pick_elim}
use Rattle.lists.proofs.Rows.{each-suc}

sum_le : (f g : ℕ → ℕ) (k n : ℕ) → ((i : ℕ) → i < n + k → f i ≤ g i) → sum (map f (up_from n k)) ≤ sum (map g (up_from n k))
sum_le f g zero n h = omega arith
sum_le f g (suc k) n h = omega (arith, h n (omega arith), sum_le f g k (suc n) (λ i l. h i (omega arith)))

sum_same : (f g : ℕ → ℕ) (k n : ℕ) → ((i : ℕ) → i < n + k → f i ≡ g i) → sum (map f (up_from n k)) ≡ sum (map g (up_from n k))
sum_same f g zero n h = refl
sum_same f g (suc k) n h = omega (arith, h n (omega arith), sum_same f g k (suc n) (λ i l. h i (omega arith)))

sum-add : (f g : ℕ → ℕ) (k n : ℕ) → sum (map (λ (i : ℕ). f i + g i) (up_from n k)) ≡ sum (map f (up_from n k)) + sum (map g (up_from n k))
sum-add f g zero n = refl
sum-add f g (suc k) n = omega (arith, sum-add f g k (suc n))

sum_most : (f : ℕ → ℕ) (b k n : ℕ) → ((i : ℕ) → i < n + k → f i ≤ b) → sum (map f (up_from n k)) ≤ k * b
sum_most f b zero n h = omega arith
sum_most f b (suc k) n h = omega (arith, h n (omega arith), sum_most f b k (suc n) (λ i l. h i (omega arith)))

sum-zero : (f : ℕ → ℕ) (k n : ℕ) → sum (map f (up_from n k)) ≡ 0 → (i : ℕ) → i < k → f (n + i) ≡ 0
sum-zero f zero n e i h = absurd (omega arith)
sum-zero f (suc k) n e zero h = rw add-zero (omega (arith, e))
sum-zero f (suc k) n e (suc i) h = rw (add-suc, ← suc-add) (sum-zero f k (suc n) (omega (arith, e)) i (omega arith))

sum_append : (xs : List ℕ) (x : ℕ) → sum (xs ++ (x ∷ [])) ≡ sum xs + x
sum_append [] x = omega arith
sum_append (y ∷ ys) x = omega (arith, sum_append ys x)

-- one pixel more, for a loop that goes up
pub sum_to-suc : (f : ℕ → ℕ) (k : ℕ) → sum_to f (k + 1) ≡ sum_to f k + f k
sum_to-suc f k = rw add-one (ap sum (each-suc f k) ∙ sum_append (map f (up_from 0 k)) (f k))

module _ (f g : ℕ → ℕ) where
  -- a figure that is no larger at any pixel
  pub pixels_le : ((i : ℕ) → i < 16 → f i ≤ g i) → over_pixels f ≤ over_pixels g
  unfolding over_pixels
  pixels_le = sum_le f g 16 0

  -- the same at every pixel
  pub pixels-same : ((i : ℕ) → i < 16 → f i ≡ g i) → over_pixels f ≡ over_pixels g
  unfolding over_pixels
  pixels-same = sum_same f g 16 0

  -- two figures
  pub pixels-add : over_pixels (λ (i : ℕ). f i + g i) ≡ over_pixels f + over_pixels g
  unfolding over_pixels
  pixels-add = sum-add f g 16 0

-- at most b at every pixel
pub pixels_most : (f : ℕ → ℕ) (b : ℕ) → ((i : ℕ) → i < 16 → f i ≤ b) → over_pixels f ≤ 16 * b
unfolding over_pixels
pixels_most f b = sum_most f b 16 0

-- nothing in all is nothing at every pixel
pub pixels-zero : (f : ℕ → ℕ) → over_pixels f ≡ 0 → (i : ℕ) → i < 16 → f i ≡ 0
unfolding over_pixels
pixels-zero f e i h = rw zero-add at (sum-zero f 16 0 e i h)

-- and the other way round
pub pixels-none : (f : ℕ → ℕ) → ((i : ℕ) → i < 16 → f i ≡ 0) → over_pixels f ≡ 0
unfolding over_pixels
pixels-none f h = pixels-same f (λ (i : ℕ). 0) h

-- what lies in each of two subsets makes the whole
pub pixels-split : (f s : ℕ → ℕ) → ((i : ℕ) → i < 16 → s i < 2) →
    over_pixels f ≡ over_pixels (λ (i : ℕ). pick (eqb (s i) 0) (f i) 0) + over_pixels (λ (i : ℕ). pick (eqb (s i) 1) (f i) 0)
pixels-split f s two =
    pixels-same f (λ (i : ℕ). pick (eqb (s i) 0) (f i) 0 + pick (eqb (s i) 1) (f i) 0)
    (λ i h.
    pick_elim (λ (w : ℕ). f i ≡ w + pick (eqb (s i) 1) (f i) 0) (eqb (s i) 0)
    (λ t. pick_elim (λ (w : ℕ). f i ≡ f i + w) (eqb (s i) 1) (λ u. absurd (omega (arith, eqb-true (s i) 0 t, eqb-true (s i) 1 u))) (λ u. omega arith))
    (λ t. pick_elim (λ (w : ℕ). f i ≡ 0 + w) (eqb (s i) 1) (λ u. omega arith) (λ u. absurd (omega (arith, two i h, eqb-false (s i) 0 t, eqb-false (s i) 1 u)))))
    ∙ pixels-add (λ (i : ℕ). pick (eqb (s i) 0) (f i) 0) (λ (i : ℕ). pick (eqb (s i) 1) (f i) 0)
