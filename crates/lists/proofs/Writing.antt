-- Laws of lists that a loop writes: a function of one, and two halves of one.
use Prim.Native.Nat.{ℕ, zero, suc, ◌+◌, ◌*◌, ◌≤◌, ◌<◌}
use native.Mathlib.Nat.{zero-add, suc-add}
use native.Mathlib.Omega.{arith}
use mathlib.Core.Path.{◌≡◌, refl, ap, ap₂, ◌∙◌}
use mathlib.Core.List.{List, [], ◌∷◌, ◌++◌, map, map-append, map-map}
use lib.ListN.{length, set, drop, replicate, length-map, length-append, length-drop, length-replicate}
use lib.Seq.{set-append_left}
use Rattle.lists.specs.Rows.{up_from, written}
use Rattle.lists.proofs.Rows.{length-up_from, written_next}

map-drop : {A B : Type 0} (g : A → B) (k : ℕ) (xs : List A) → map g (drop k xs) ≡ drop k (map g xs)
map-drop g zero xs = refl
map-drop g (suc k) [] = refl
map-drop g (suc k) (x ∷ xs) = map-drop g k xs

-- a function of a list that is written
pub map-written : {A B : Type 0} (g : A → B) (f : ℕ → A) (k : ℕ) (xs : List A) → map g (written f k xs) ≡ written (λ (i : ℕ). g (f i)) k (map g xs)
unfolding written
map-written g f k xs = map-append g (map f (up_from 0 k)) (drop k xs) ∙ ap₂ ◌++◌ (map-map g f (up_from 0 k)) (map-drop g k xs)

-- writing keeps the length
pub length-written : {A : Type 0} (f : ℕ → A) (k : ℕ) (xs : List A) → k ≤ length xs → length (written f k xs) ≡ length xs
unfolding written
length-written f k xs h = simp (length-append, length-map, length-up_from, length-drop) (omega arith)

set_append_right : {A : Type 0} (xs ys : List A) (i : ℕ) (a : A) → set (xs ++ ys) (length xs + i) a ≡ xs ++ set ys i a
set_append_right [] ys i a = rw zero-add
set_append_right {A} (x ∷ xs) ys i a = rw suc-add (ap {B = List A} (λ l. x ∷ l) (set_append_right xs ys i a))

-- one more place of each part of a list, of n places each
module _ (n k : ℕ) (h : k < n) where
  -- the parts of a list, and the places that are written in them
  abbrev part : (ℕ → ℕ) → ℕ → List ℕ
  part f j = written f j (replicate n 0)

  part_length : (f : ℕ → ℕ) (j : ℕ) → j ≤ n → length (part f j) ≡ n
  part_length f j l =
      let z : length (replicate {A = ℕ} n 0) ≡ n = length-replicate n 0 in
      length-written f j (replicate n 0) (omega arith) ∙ z

  -- of the first part
  first_next : (f : ℕ → ℕ) (rest : List ℕ) → set (part f k ++ rest) k (f k) ≡ part f (k + 1) ++ rest
  first_next f rest =
      let z : length (replicate {A = ℕ} n 0) ≡ n = length-replicate n 0 in
      rw (set-append_left (part f k) rest k (f k) (omega (arith, part_length f k (omega arith))), written_next 0 f (replicate n 0) k (omega arith))

  -- of the parts after the first
  rest_next : (f : ℕ → ℕ) (rest : List ℕ) (at i v : ℕ) → at ≡ i + n → set (part f (k + 1) ++ rest) at v ≡ part f (k + 1) ++ set rest i v
  rest_next f rest at i v e =
      let l : at ≡ length (part f (k + 1)) + i = omega (arith, part_length f (k + 1) (omega arith)) in
      rw l (set_append_right (part f (k + 1)) rest i v)

  -- of two
  pub halves-next : (f g : ℕ → ℕ) → set (set (part f k ++ part g k) k (f k)) (k + n) (g k) ≡ part f (k + 1) ++ part g (k + 1)
  halves-next f g =
      let z : length (replicate {A = ℕ} n 0) ≡ n = length-replicate n 0 in
      rw (first_next f (part g k), rest_next f (part g k) (k + n) k (g k) refl, written_next 0 g (replicate n 0) k (omega arith))

  -- of four
  pub quarters_next : (f g p q : ℕ → ℕ) →
      set (set (set (set (part f k ++ (part g k ++ (part p k ++ part q k))) k (f k)) (k + n) (g k)) (k + n * 2) (p k)) (k + n * 3) (q k)
      ≡ part f (k + 1) ++ (part g (k + 1) ++ (part p (k + 1) ++ part q (k + 1)))
  quarters_next f g p q =
      let z : length (replicate {A = ℕ} n 0) ≡ n = length-replicate n 0 in
      let two : k + n * 2 ≡ k + n + n = omega arith in
      let three : k + n * 3 ≡ k + n * 2 + n = omega arith in
      rw (
        first_next f (part g k ++ (part p k ++ part q k)),
        rest_next f (part g k ++ (part p k ++ part q k)) (k + n) k (g k) refl,
        first_next g (part p k ++ part q k),
        rest_next f (part g (k + 1) ++ (part p k ++ part q k)) (k + n * 2) (k + n) (p k) two,
        rest_next g (part p k ++ part q k) (k + n) k (p k) refl,
        first_next p (part q k),
        rest_next f (part g (k + 1) ++ (part p (k + 1) ++ part q k)) (k + n * 3) (k + n * 2) (q k) three,
        rest_next g (part p (k + 1) ++ part q k) (k + n * 2) (k + n) (q k) two,
        rest_next p (part q k) (k + n) k (q k) refl,
        written_next 0 q (replicate n 0) k (omega arith),
      )

-- several places more
module _ (f : ℕ → ℕ) (xs : List ℕ) (n : ℕ) where
  place : (k v : ℕ) → n + k < length xs → v ≡ f (n + k) → set (written f (n + k) xs) (n + k) v ≡ written f (n + (k + 1)) xs
  place k v h e =
      let a : n + (k + 1) ≡ n + k + 1 = omega arith in
      rw (e, a) (written_next 0 f xs (n + k) h)

  -- four of them
  pub written-four : (a b c d : ℕ) → n + 3 < length xs → a ≡ f n → b ≡ f (n + 1) → c ≡ f (n + 2) → d ≡ f (n + 3) →
      set (set (set (set (written f n xs) n a) (n + 1) b) (n + 2) c) (n + 3) d ≡ written f (n + 4) xs
  written-four a b c d h ea eb ec ed =
      rw (ea, written_next 0 f xs n (omega arith), place 1 b (omega arith) eb, place 2 c (omega arith) ec) (place 3 d h ed)
