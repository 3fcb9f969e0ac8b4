-- Laws of numbers in a row, and of the list that a function makes of them.
use Prim.Native.Nat.{ℕ, zero, suc, ◌+◌, ◌<◌}
use native.Mathlib.Nat.{le_of_suc-le-suc, not-suc-le-zero, add-zero, zero-add, add-suc, suc-add}
use native.Mathlib.Numerals.{add-one}
use native.Mathlib.Omega.{arith}
use mathlib.Core.Path.{◌≡◌, refl, sym, ap, ap₂, ◌∙◌}
use mathlib.Core.List.Memᴰ
use mathlib.Core.List.{List, [], ◌∷◌, ◌++◌, map, Memᴰ, map-append, append-nil, append_assoc}
use lib.ListN.{length, get_or, set, drop, length-map, get_or-append}
use lib.Seq.{ext_get_or, get_or-append-add, set_at, drop-cons, drop-length}
use Rattle.lists.specs.Rows.{up_from, written}

-- k numbers
pub length-up_from : (k n : ℕ) → length (up_from n k) ≡ k
length-up_from zero n = refl
length-up_from (suc k) n = ap suc (length-up_from k (suc n))

-- the number at place i
pub get_or-up_from : (k n i d : ℕ) → i < k → get_or (up_from n k) i d ≡ n + i
get_or-up_from zero n i d h = absurd (not-suc-le-zero h)
get_or-up_from (suc k) n zero d h = sym (add-zero n)
get_or-up_from (suc k) n (suc i) d h = rw (add-suc, ← suc-add) (get_or-up_from k (suc n) i d (le_of_suc-le-suc h))

-- the numbers that are in it
pub up_from_has : (k n i : ℕ) → i < k → Memᴰ (n + i) (up_from n k)
up_from_has zero n i h = absurd (omega arith)
up_from_has (suc k) n zero h = Memᴰ.head (add-zero n)
up_from_has (suc k) n (suc i) h =
    let e : n + suc i ≡ suc n + i = omega arith in
    Memᴰ.tail (Memᴰ.cast e (up_from_has k (suc n) i (omega arith)))

-- and no others
pub up_from-below : (k n i : ℕ) → Memᴰ i (up_from n k) → i < n + k
up_from-below zero n i m = absurd (Memᴰ.not-nil m)
up_from-below (suc k) n i (Memᴰ.head e) = omega arith
up_from-below (suc k) n i (Memᴰ.tail m) = omega (arith, up_from-below k (suc n) i m)

-- one more at its end, for a loop that goes up
pub up_from-suc : (k n : ℕ) → up_from n (suc k) ≡ up_from n k ++ ((n + k) ∷ [])
up_from-suc zero n = rw add-zero
up_from-suc (suc k) n =
    let e : suc n + k ≡ n + suc k = omega arith in
    ap {B = List ℕ} (λ l. n ∷ l) (rw e at (up_from-suc k (suc n)))

-- a function of it
pub each-suc {ℓ} : {B : Type ℓ} (f : ℕ → B) (k : ℕ) → map f (up_from 0 (suc k)) ≡ map f (up_from 0 k) ++ (f k ∷ [])
each-suc {B} f k =
    ap (map f) (up_from-suc k 0)
    ∙ map-append f (up_from 0 k) ((0 + k) ∷ [])
    ∙ ap {B = List B} (λ (j : ℕ). map f (up_from 0 k) ++ (f j ∷ [])) (zero-add k)

module _ {ℓ} {B : Type ℓ} (d : B) where
  -- a function of a list, at place i
  pub get_or-map {κ} : {A : Type κ} (e : A) (f : A → B) (l : List A) (i : ℕ) → i < length l → get_or (map f l) i d ≡ f (get_or l i e)
  get_or-map e f [] i h = absurd (not-suc-le-zero h)
  get_or-map e f (x ∷ l) zero h = refl
  get_or-map e f (x ∷ l) (suc i) h = get_or-map e f l i (le_of_suc-le-suc h)

  -- what stands at place i of a function's row
  pub get_or-each : (f : ℕ → B) (k i : ℕ) → i < k → get_or (map f (up_from 0 k)) i d ≡ f i
  get_or-each f k i h = get_or-map 0 f (up_from 0 k) i (rw length-up_from h) ∙ ap f (get_or-up_from k 0 i 0 h ∙ zero-add i)

  -- and with another list after it
  pub each_front : (f : ℕ → B) (k i : ℕ) (rest : List B) → i < k → get_or (map f (up_from 0 k) ++ rest) i d ≡ f i
  each_front f k i rest h = get_or-append (map f (up_from 0 k)) rest d i (simp (length-map, length-up_from) h) ∙ get_or-each f k i h

  -- that list past the row
  pub each_past : (f : ℕ → B) (k i at : ℕ) (rest : List B) → at ≡ i + k → get_or (map f (up_from 0 k) ++ rest) at d ≡ get_or rest i d
  each_past f k i at rest e =
      let l : length (map f (up_from 0 k)) ≡ k = simp (length-map, length-up_from) in
      let n : at ≡ length (map f (up_from 0 k)) + i = omega arith in
      rw n (get_or-append-add (map f (up_from 0 k)) rest i d)

  same_from : (f g : ℕ → B) (k n : ℕ) → ((i : ℕ) → i < n + k → f i ≡ g i) → map f (up_from n k) ≡ map g (up_from n k)
  same_from f g zero n h = refl
  same_from f g (suc k) n h = ap₂ ◌∷◌ (h n (omega arith)) (same_from f g k (suc n) (λ i l. h i (omega arith)))

  -- functions that agree below k make the same row
  pub each_same : (f g : ℕ → B) (k : ℕ) → ((i : ℕ) → i < k → f i ≡ g i) → map f (up_from 0 k) ≡ map g (up_from 0 k)
  each_same f g k h = same_from f g k 0 (λ i l. h i (omega arith))

  -- a list is what it has at each place
  pub listed : (l : List B) (k : ℕ) → length l ≡ k → map (λ (i : ℕ). get_or l i d) (up_from 0 k) ≡ l
  listed l k e =
      ext_get_or d (map (λ (i : ℕ). get_or l i d) (up_from 0 k)) l (simp (length-map, length-up_from) (sym e))
      (λ i h. get_or-each (λ (i : ℕ). get_or l i d) k i (simp (length-map, length-up_from) at h))

-- a list that a loop writes, one place after the other
module _ {ℓ} {A : Type ℓ} (d : A) (f : ℕ → A) (xs : List A) where
  -- one more
  pub written_next : (k : ℕ) → k < length xs → set (written f k xs) k (f k) ≡ written f (k + 1) xs
  unfolding written
  written_next k h =
      let l : length (map f (up_from 0 k)) ≡ k = simp (length-map, length-up_from) in
      rw (add-one, drop-cons xs k d h, set_at (map f (up_from 0 k)) (get_or xs k d) (drop (suc k) xs) (f k) k l)
      (sym (ap (λ (ys : List A). ys ++ drop (suc k) xs) (each-suc f k) ∙ append_assoc (map f (up_from 0 k)) (f k ∷ []) (drop (suc k) xs)))

  -- after the last
  pub written_all : (n : ℕ) → length xs ≡ n → written f n xs ≡ map f (up_from 0 n)
  unfolding written
  written_all n e = rw (← e, drop-length, append-nil)

  -- a place that is written
  pub written_at : (k i : ℕ) → i < k → get_or (written f k xs) i d ≡ f i
  unfolding written
  written_at k i h =
      let l : i < length (map f (up_from 0 k)) = simp (length-map, length-up_from) h in
      get_or-append (map f (up_from 0 k)) (drop k xs) d i l ∙ get_or-each d f k i h

-- functions that agree below k write the same
pub written_same {ℓ} : {A : Type ℓ} (d : A) (f g : ℕ → A) (xs : List A) (k : ℕ) → ((i : ℕ) → i < k → f i ≡ g i) → written f k xs ≡ written g k xs
unfolding written
written_same {A} d f g xs k h = ap (λ (ys : List A). ys ++ drop k xs) (each_same d f g k h)
