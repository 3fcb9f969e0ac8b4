-- Laws of the first of least error: it is no worse than any, it is one of them, and it is the earliest such.
use Prim.Native.Nat.{ℕ, ◌≤◌, ◌<◌}
use mathlib.Core.Path.{◌≡◌, refl, ap, ap₂, ◌∙◌}
use mathlib.Core.Bool.{Bool, true, false}
use mathlib.Core.Logic.{inl, inr}
use mathlib.Core.List.Memᴰ
use mathlib.Core.List.{List, [], ◌∷◌, ◌++◌, Memᴰ}
use native.Mathlib.Nat.{le_refl, le_trans}
use native.Mathlib.Omega.{arith}
use lib.Dec.{leb, ltb}
use borrow.Author.Tests.{leb-true, leb-false, le-leb, lt-ltb, le-ltb}
use Rattle.lists.specs.Tests.{pick}
use Rattle.lists.specs.Least.{first_least, Earliest}
use Rattle.lists.proofs.Tests.{pick_elim}

-- a strict test that takes the later keeps the earlier at equal error
pub strict {ℓ} : {A : Type ℓ} (a b : ℕ) (x y : A) → pick (ltb b a) y x ≡ pick (leb a b) x y
strict a b x y = go (leb a b) refl
  where
    go : (t : Bool) → leb a b ≡ t → pick (ltb b a) y x ≡ pick t x y
    go true e = rw (le-ltb b a (leb-true a b e))
    go false e = rw (lt-ltb b a (leb-false a b e))

-- errors that agree choose the same
pub least-same : {A : Type 0} (f g : A → ℕ) (xs : List A) (best : A) → ((x : A) → Memᴰ x (best ∷ xs) → f x ≡ g x) → first_least f best xs ≡ first_least g best xs
unfolding first_least
least-same f g [] best h = refl
least-same {A} f g (x ∷ xs) best h =
    let test : leb (f best) (f x) ≡ leb (g best) (g x) = ap₂ leb (h best (Memᴰ.head refl)) (h x (Memᴰ.tail (Memᴰ.head refl))) in
    least-same f g xs (pick (leb (f best) (f x)) best x)
    (λ y m. elim (Memᴰ.cases_cons m) [
      | inl e ↦ pick_elim (λ (w : A). y ≡ w → f y ≡ g y) (leb (f best) (f x)) (λ t e. h y (Memᴰ.head e)) (λ t e. h y (Memᴰ.tail (Memᴰ.head e))) e
      | inr n ↦ h y (Memᴰ.tail (Memᴰ.tail n))
    ])
    ∙ ap (λ (t : Bool). first_least g (pick t best x) xs) test

module _ {A : Type 0} (error : A → ℕ) where
  -- at equal error the earlier is kept
  pub tie : (a b : A) → error a ≡ error b → first_least error a (b ∷ []) ≡ a
  unfolding first_least
  tie a b e = rw (le-leb (error a) (error b) (omega arith))

  -- none after the first
  pub least-none : (a : A) → first_least error a [] ≡ a
  unfolding first_least
  least-none a = refl

  -- the next of the list
  pub least-next : (a b : A) (xs : List A) → first_least error a (b ∷ xs) ≡ first_least error (pick (leb (error a) (error b)) a b) xs
  unfolding first_least
  least-next a b xs = refl

  left_le : (a b : A) → error (pick (leb (error a) (error b)) a b) ≤ error a
  left_le a b =
      pick_elim (λ (w : A). error w ≤ error a) (leb (error a) (error b)) (λ t. le_refl (error a)) (λ t. omega (arith, leb-false (error a) (error b) t))

  right_le : (a b : A) → error (pick (leb (error a) (error b)) a b) ≤ error b
  right_le a b =
      pick_elim (λ (w : A). error w ≤ error b) (leb (error a) (error b)) (λ t. leb-true (error a) (error b) t) (λ t. le_refl (error b))

  -- it is no worse than any
  pub least_best : (xs : List A) (best : A) → error (first_least error best xs) ≤ error best
  unfolding first_least
  least_best [] best = le_refl (error best)
  least_best (x ∷ xs) best = le_trans (least_best xs (pick (leb (error best) (error x)) best x)) (left_le best x)

  least_rest : (xs : List A) (best : A) {c : A} → Memᴰ c xs → error (first_least error best xs) ≤ error c
  unfolding first_least
  least_rest [] best m = absurd (Memᴰ.not-nil m)
  least_rest (x ∷ xs) best (Memᴰ.head e) =
      rw e (le_trans (least_best xs (pick (leb (error best) (error x)) best x)) (right_le best x))
  least_rest (x ∷ xs) best (Memᴰ.tail m) = least_rest xs (pick (leb (error best) (error x)) best x) m

  -- of the first and of the list
  pub least-all : (xs : List A) (best : A) {c : A} → Memᴰ c (best ∷ xs) → error (first_least error best xs) ≤ error c
  least-all xs best (Memᴰ.head e) = rw e (least_best xs best)
  least-all xs best (Memᴰ.tail m) = least_rest xs best m

  -- what holds of each in the list holds of it
  keeps : (P : A → Type 0) (xs : List A) (best : A) → P best → ((x : A) → Memᴰ x xs → P x) → P (first_least error best xs)
  unfolding first_least
  keeps P [] best h all = h
  keeps P (x ∷ xs) best h all =
      keeps P xs (pick (leb (error best) (error x)) best x)
      (pick_elim P (leb (error best) (error x)) (λ t. h) (λ t. all x (Memᴰ.head refl)))
      (λ y m. all y (Memᴰ.tail m))

  -- of the first and of the list
  pub least-keeps : (P : A → Type 0) (xs : List A) (best : A) → ((x : A) → Memᴰ x (best ∷ xs) → P x) → P (first_least error best xs)
  least-keeps P xs best all = keeps P xs best (all best (Memᴰ.head refl)) (λ x m. all x (Memᴰ.tail m))

  -- a loop may stop on the way
  pub least_append : (xs ys : List A) (best : A) → first_least error best (xs ++ ys) ≡ first_least error (first_least error best xs) ys
  unfolding first_least
  least_append [] ys best = refl
  least_append (x ∷ xs) ys best = least_append xs ys (pick (leb (error best) (error x)) best x)

  -- and it is the earliest such
  later_worse : (a b : A) (xs : List A) (w : A) → error a ≤ error b → Earliest error (a ∷ xs) w → Earliest error (a ∷ (b ∷ xs)) w
  later_worse a b xs w h f = go f.before f.whole f.below
    where
      go : (bs : List A) → a ∷ xs ≡ bs ++ (w ∷ f.later) → ((x : A) → Memᴰ x bs → error w < error x) → Earliest error (a ∷ (b ∷ xs)) w
      go [] e below =
          let q : a ≡ w = cc in
          record {
            before = [];
            later = b ∷ f.later;
            whole = cc;
            below = below;
            least = λ (x : A) m. elim (Memᴰ.cases_cons m) [ inl r ↦ rw (r, ← q) h | inr n ↦ f.least x n ];
          }
      go (d ∷ ds) e below =
          let q : a ≡ d = cc in
          let g : error w < error a = rw q (below d (Memᴰ.head refl)) in
          let g' : error w < error b = omega arith in
          record {
            before = a ∷ (b ∷ ds);
            later = f.later;
            whole = cc;
            below = λ (x : A) m.
                elim (Memᴰ.cases_cons m) [
                  | inl r ↦ rw r g
                  | inr n ↦ elim (Memᴰ.cases_cons n) [ inl r ↦ rw r g' | inr o ↦ below x (Memᴰ.tail o) ]
                ];
            least = f.least;
          }

  -- the first of least error
  pub earliest : (xs : List A) (x : A) → Earliest error (x ∷ xs) (first_least error x xs)
  unfolding first_least
  earliest [] x =
      record { before = []; later = []; whole = refl; below = λ (c : A) m. absurd (Memᴰ.not-nil m); least = λ (c : A) m. absurd (Memᴰ.not-nil m) }
  earliest (y ∷ ys) x =
      pick_elim (λ (w : A). Earliest error (x ∷ (y ∷ ys)) (first_least error w ys)) (leb (error x) (error y))
      (λ t. later_worse x y ys (first_least error x ys) (leb-true (error x) (error y) t) (earliest ys x))
      (λ t.
      let f : Earliest error (y ∷ ys) (first_least error y ys) = earliest ys y in
      let h : error (first_least error y ys) < error x = omega (arith, least_best ys y, leb-false (error x) (error y) t) in
      record {
        before = x ∷ f.before;
        later = f.later;
        whole = ap {B = List A} (λ l. x ∷ l) f.whole;
        below = λ (c : A) m. elim (Memᴰ.cases_cons m) [ inl r ↦ rw r h | inr n ↦ f.below c n ];
        least = f.least;
      })
