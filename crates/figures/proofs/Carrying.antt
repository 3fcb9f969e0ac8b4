-- Laws of keys with one more put in.
use Prim.Native.Nat.{ℕ, zero, suc, ◌+◌, ◌-◌, ◌<◌, ◌≤◌, min, max}
use native.Mathlib.Nat.{add_comm, max-le, eq-zero-or-pos}
use native.Mathlib.Omega.{arith}
use mathlib.Core.Path.{◌≡◌, refl, sym, ap, ◌∙◌}
use mathlib.Core.Logic.{inl, inr}
use mathlib.Core.List.{List, [], ◌∷◌, ◌++◌}
use lib.Dec.{eqb}
use lib.ListN.{length, get_or, take, drop, set, replicate, length-replicate}
use lib.Seq.{take_all}
use Rattle.lists.specs.Tests.{pick}
use Rattle.figures.specs.Worst.{inserted, inserted_all, Descending, times, HoldsGreatest}

-- one place passed: the greater key stays, and the lesser is carried on
pub carried_on : (keys : List ℕ) (key i : ℕ) → i < length keys →
    take (suc i) (set keys i (max (get_or keys i 0) key))
    ++ inserted (drop (suc i) (set keys i (max (get_or keys i 0) key))) (min (get_or keys i 0) key)
    ≡ take i keys ++ inserted (drop i keys) key
unfolding inserted
carried_on [] key i h = absurd (omega arith)
carried_on (x ∷ xs) key zero h = refl
carried_on (x ∷ xs) key (suc i) h = ap {B = List ℕ} (λ l. x ∷ l) (carried_on xs key i (omega arith))

-- where these are known to be the greater and the lesser
pub passed : (keys : List ℕ) (key i greater lesser : ℕ) → i < length keys → greater ≡ max (get_or keys i 0) key → lesser ≡ min (get_or keys i 0) key →
    take (suc i) (set keys i greater) ++ inserted (drop (suc i) (set keys i greater)) lesser ≡ take i keys ++ inserted (drop i keys) key
passed keys key i greater lesser h e f = rw (e, f) (carried_on keys key i h)

-- a key put into a list that grows by it
put : List ℕ → ℕ → List ℕ
put [] key = key ∷ []
put (x ∷ xs) key = max x key ∷ put xs (min x key)

-- several
put_all : List ℕ → List ℕ → List ℕ
put_all xs [] = xs
put_all xs (key ∷ keys) = put_all (put xs key) keys

-- it is one longer
put-length : (xs : List ℕ) (key : ℕ) → length (put xs key) ≡ suc (length xs)
unfolding put
put-length [] key = refl
put-length (x ∷ xs) key = ap suc (put-length xs (min x key))

-- its first n places are those of the list that does not grow
put_first : (n : ℕ) (xs : List ℕ) (key : ℕ) → n ≤ length xs → take n (put xs key) ≡ inserted (take n xs) key
unfolding put inserted
put_first zero [] key h = refl
put_first zero (x ∷ xs) key h = refl
put_first (suc n) [] key h = absurd (omega arith)
put_first (suc n) (x ∷ xs) key h = ap {B = List ℕ} (λ l. max x key ∷ l) (put_first n xs (min x key) (omega arith))

-- and so after several
all_first : (n : ℕ) (xs keys : List ℕ) → n ≤ length xs → take n (put_all xs keys) ≡ inserted_all (take n xs) keys
unfolding put_all inserted_all
all_first n xs [] h = refl
all_first n xs (key ∷ keys) h =
    all_first n (put xs key) keys (omega (arith, put-length xs key))
    ∙ ap (λ (l : List ℕ). inserted_all l keys) (put_first n xs key h)

-- the one in front is at most a bound of both
put-head : (xs : List ℕ) (key m : ℕ) → get_or xs 0 0 ≤ m → key ≤ m → get_or (put xs key) 0 0 ≤ m
unfolding put
put-head [] key m h l = l
put-head (x ∷ xs) key m h l = max-le h l

-- order stays
put-ordered : (xs : List ℕ) (key : ℕ) → Descending xs → Descending (put xs key)
unfolding put
put-ordered [] key d i = omega arith
put-ordered (x ∷ xs) key d zero =
    put-head xs (min x key) (max x key) (omega (arith, d 0)) (omega arith)
put-ordered (x ∷ xs) key d (suc i) = put-ordered xs (min x key) (λ i. d (suc i)) i

-- of two the greater and the lesser are both
both : (f : ℕ → ℕ) (x y : ℕ) → f (max x y) + f (min x y) ≡ f y + f x
both f x y =
    elim (eq-zero-or-pos (x - y)) [
      | inl h ↦
          let high : max x y ≡ y = omega arith in
          let low : min x y ≡ x = omega arith in
          rw (high, low)
      | inr h ↦
          let high : max x y ≡ x = omega arith in
          let low : min x y ≡ y = omega arith in
          rw (high, low) (add_comm (f x) (f y))
    ]

-- and no key is lost or doubled
put-times : (n : ℕ) (xs : List ℕ) (key : ℕ) → times n (put xs key) ≡ times n (key ∷ xs)
unfolding put
put-times n [] key = refl
put-times n (x ∷ xs) key = omega (arith, put-times n xs (min x key), both (λ (y : ℕ). pick (eqb y n) 1 0) x key)

-- order after several
all-ordered : (xs keys : List ℕ) → Descending xs → Descending (put_all xs keys)
unfolding put_all
all-ordered xs [] d = d
all-ordered xs (key ∷ keys) d = all-ordered (put xs key) keys (put-ordered xs key d)

-- and their number
all-times : (n : ℕ) (xs keys : List ℕ) → times n (put_all xs keys) ≡ times n keys + times n xs
unfolding put_all
all-times n xs [] = omega arith
all-times n xs (key ∷ keys) = omega (arith, all-times n (put xs key) keys, put-times n xs key)

-- as many places as before
inserted-length : (xs : List ℕ) (key : ℕ) → length (inserted xs key) ≡ length xs
unfolding inserted
inserted-length [] key = refl
inserted-length (x ∷ xs) key = ap suc (inserted-length xs (min x key))

-- and after several
all-length : (xs keys : List ℕ) → length (inserted_all xs keys) ≡ length xs
unfolding inserted_all
all-length xs [] = refl
all-length xs (key ∷ keys) = all-length (inserted xs key) keys ∙ inserted-length xs key

-- empty places
zero-at : (n i : ℕ) → get_or {A = ℕ} (replicate n 0) i 0 ≡ 0
zero-at zero i = refl
zero-at (suc n) zero = refl
zero-at (suc n) (suc i) = zero-at n i

-- from empty places on
pub holds-greatest : HoldsGreatest
holds-greatest n keys =
    let zeros : List ℕ = replicate n 0 in
    let e : length zeros ≡ n = length-replicate n 0 in
    record {
      all = put_all zeros keys;
      same = λ key. all-times key zeros keys;
      ordered = all-ordered zeros keys (λ i. omega (arith, zero-at n (suc i)));
      first = sym (all_first n zeros keys (omega arith) ∙ ap (λ (l : List ℕ). inserted_all l keys) (take_all n zeros (omega arith)));
      full = all-length zeros keys ∙ e;
    }
