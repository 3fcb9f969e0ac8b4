-- Laws of lists that are gathered from the places of another.
use Prim.Native.Nat.{ℕ, zero, suc, ◌+◌, ◌<◌}
use native.Mathlib.Nat.{add-zero, add-suc}
use mathlib.Core.Path.{◌≡◌, sym, ap, ap₂, ◌∙◌}
use mathlib.Core.List.{List, [], ◌∷◌, ◌++◌, map, append-nil, append_assoc}
use lib.ListN.{length, get_or, get_or-append}
use lib.Seq.{get_or-append-add}
use Rattle.lists.specs.Rows.{up_from}
use Rattle.lists.proofs.Rows.{each-suc, each_same, get_or-each, listed}
use Rattle.groups.specs.Cutting.{gather}

-- what is gathered again at places that undo the first
pub gathered_back : (f g : ℕ → ℕ) (m n : ℕ) (xs : List ℕ) →
    length xs ≡ m →
    ((j : ℕ) → j < m → (g j < n) × (f (g j) ≡ j)) →
    gather g m (gather f n xs) ≡ xs
gathered_back f g m n xs l back =
    each_same 0 (λ (j : ℕ). get_or (gather f n xs) (g j) 0) (λ (j : ℕ). get_or xs j 0) m
    (λ j b. get_or-each 0 (λ (i : ℕ). get_or xs (f i) 0) n (g j) (back j b).0 ∙ ap (λ (i : ℕ). get_or xs i 0) (back j b).1)
    ∙ listed 0 xs m l

-- a function's values in two parts
each-add : (f : ℕ → ℕ) (m n : ℕ) → map f (up_from 0 (m + n)) ≡ map f (up_from 0 m) ++ map (λ (i : ℕ). f (m + i)) (up_from 0 n)
each-add f m zero = rw (add-zero, append-nil)
each-add f m (suc n) =
    ap (λ (k : ℕ). map f (up_from 0 k)) (add-suc m n)
    ∙ each-suc f (m + n)
    ∙ ap (λ (l : List ℕ). l ++ (f (m + n) ∷ [])) (each-add f m n)
    ∙ append_assoc (map f (up_from 0 m)) (map (λ (i : ℕ). f (m + i)) (up_from 0 n)) (f (m + n) ∷ [])
    ∙ ap (λ (l : List ℕ). map f (up_from 0 m) ++ l) (sym (each-suc (λ (i : ℕ). f (m + i)) n))

-- what is gathered at places of a first list of a numbers, and then at places of a second
pub gathered_add : (f f₁ f₂ : ℕ → ℕ) (m n a : ℕ) (xs ys : List ℕ) →
    length xs ≡ a →
    ((i : ℕ) → i < m → (f i ≡ f₁ i) × (f₁ i < a)) →
    ((i : ℕ) → f (m + i) ≡ a + f₂ i) →
    gather f (m + n) (xs ++ ys) ≡ gather f₁ m xs ++ gather f₂ n ys
gathered_add f f₁ f₂ m n a xs ys l first second =
    each-add (λ (i : ℕ). get_or (xs ++ ys) (f i) 0) m n
    ∙ ap₂ ◌++◌
    (each_same 0 (λ (i : ℕ). get_or (xs ++ ys) (f i) 0) (λ (i : ℕ). get_or xs (f₁ i) 0) m
    (λ i b. rw (first i b).0 (get_or-append xs ys 0 (f₁ i) (rw l (first i b).1))))
    (each_same 0 (λ (i : ℕ). get_or (xs ++ ys) (f (m + i)) 0) (λ (i : ℕ). get_or ys (f₂ i) 0) n
    (λ i b. rw (second i, ← l) (get_or-append-add xs ys (f₂ i) 0)))
