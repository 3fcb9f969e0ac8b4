-- From a test that antt computes to a rule: at every number below a bound, and at every member of a list.
use Prim.Native.Nat.{ℕ, zero, suc, ◌+◌, ◌≤◌, ◌<◌}
use native.Mathlib.Nat.{le_of_suc-le-suc, not-suc-le-zero, add-zero, zero-add, add-suc, suc-add}
use native.Mathlib.Omega.{arith}
use mathlib.Core.Path.{◌≡◌, refl}
use mathlib.Core.Bool.{Bool, true, false}
use mathlib.Core.List.Memᴰ
use mathlib.Core.List.{List, [], ◌∷◌, Memᴰ}
use lib.Dec.{T}
use lib.ListN.{get_or, length}
use Rattle.lists.specs.Tests.{or, all}
use Rattle.lists.specs.Rows.{up_from}
use Rattle.lists.proofs.Tests.{and_left, and_right}

tested_from : (f : ℕ → Bool) (k n : ℕ) → T (all f (up_from n k)) → (i : ℕ) → i < k → T (f (n + i))
tested_from f zero n t i h = absurd (not-suc-le-zero h)
tested_from f (suc k) n t zero h = rw add-zero (and_left (f n) (all f (up_from (suc n) k)) t)
tested_from f (suc k) n t (suc i) h =
    rw (add-suc, ← suc-add) (tested_from f k (suc n) (and_right (f n) (all f (up_from (suc n) k)) t) i (le_of_suc-le-suc h))

-- a test of every number below k, computed, holds of each
pub tested : (f : ℕ → Bool) (k : ℕ) → T (all f (up_from 0 k)) → (i : ℕ) → i < k → T (f i)
tested f k t i h = rw zero-add at (tested_from f k 0 t i h)

-- a test of every member of a list holds of each
pub all_of : (f : ℕ → Bool) (xs : List ℕ) → T (all f xs) → (x : ℕ) → Memᴰ x xs → T (f x)
all_of f [] t x m = absurd (Memᴰ.not-nil m)
all_of f (y ∷ xs) t x (Memᴰ.head e) = rw e (and_left (f y) (all f xs) t)
all_of f (y ∷ xs) t x (Memᴰ.tail m) = all_of f xs (and_right (f y) (all f xs) t) x m

-- several tests at once
abbrev pub all_true : List Bool → Bool
all_true = all (λ (b : Bool). b)

-- hold each
pub each-true : (bs : List Bool) → T (all_true bs) → (i : ℕ) → T (get_or bs i true)
each-true [] t i = tt
each-true (b ∷ bs) t zero = and_left b (all_true bs) t
each-true (b ∷ bs) t (suc i) = each-true bs (and_right b (all_true bs) t) i

-- some member of the list passes the test
abbrev pub any : (ℕ → Bool) → List ℕ → Bool
any f [] = false
any f (x ∷ xs) = or (f x) (any f xs)

-- and which
pub any_of : (f : ℕ → Bool) (xs : List ℕ) → T (any f xs) → (x : ℕ) × Memᴰ x xs × T (f x)
any_of f [] t = absurd t
any_of f (x ∷ xs) t = go (f x) refl t (any_of f xs)
  where
    go : (b : Bool) → f x ≡ b → T (or b (any f xs)) → (T (any f xs) → (y : ℕ) × Memᴰ y xs × T (f y)) → (y : ℕ) × Memᴰ y (x ∷ xs) × T (f y)
    go true e t later = (x, Memᴰ.head refl, rw e tt)
    go false e t later =
        let (y, m, u) = later t in
        (y, Memᴰ.tail m, u)

-- the numbers below two and below four, one by one
pub two {ℓ} : (P : ℕ → Type ℓ) → P 0 → P 1 → (s : ℕ) → s < 2 → P s
two P a b zero h = a
two P a b (suc zero) h = b
two P a b (suc (suc s)) h = absurd (omega arith)

-- below four
pub four {ℓ} : (P : ℕ → Type ℓ) → P 0 → P 1 → P 2 → P 3 → (k : ℕ) → k < 4 → P k
four P a b c d zero h = a
four P a b c d (suc zero) h = b
four P a b c d (suc (suc zero)) h = c
four P a b c d (suc (suc (suc zero))) h = d
four P a b c d (suc (suc (suc (suc k)))) h = absurd (omega arith)

-- what holds of any four elements holds of a list of four
pub of_four {ℓ} : {A : Type ℓ} (P : List A → Type 0) → ((a b c d : A) → P (a ∷ (b ∷ (c ∷ (d ∷ []))))) → (es : List A) → length es ≡ 4 → P es
of_four P h [] e = absurd (omega arith)
of_four P h (a ∷ []) e = absurd (omega arith)
of_four P h (a ∷ (b ∷ [])) e = absurd (omega arith)
of_four P h (a ∷ (b ∷ (c ∷ []))) e = absurd (omega arith)
of_four P h (a ∷ (b ∷ (c ∷ (d ∷ [])))) e = h a b c d
of_four P h (a ∷ (b ∷ (c ∷ (d ∷ (x ∷ es))))) e = absurd (omega arith)

-- what is known of a number that no arm of a `match` with arms 0 to n - 1 takes
abbrev pub NoArm : ℕ → ℕ → Type 0
NoArm x zero = Prim.Unit {0}
NoArm x (suc n) = NoArm x n × (x ≡ n → Prim.⊥)

-- it is past them
pub past_arms : (x n : ℕ) → NoArm x n → n ≤ x
past_arms x zero h = omega arith
past_arms x (suc n) h =
    let m : n ≤ x = past_arms x n h.0 in
    let e : x ≡ n → Prim.⊥ = h.1 in
    omega arith
