-- The first of least error: the rule by which indices, p-bits and candidates are chosen.
use Rattle.std.specs.Prelude.{ℕ, ◌<◌, ◌≤◌, ◌≡◌, leb}
use mathlib.Core.List.{List, [], ◌∷◌, ◌++◌, Memᴰ}
use Rattle.lists.specs.Tests.{pick}

-- the first of least error, of one and of the list after it
unfoldable pub first_least {ℓ} : {A : Type ℓ} → (A → ℕ) → A → List A → A
first_least error best [] = best
first_least error best (x ∷ xs) = first_least error (pick (leb (error best) (error x)) best x) xs

-- w is the earliest in the list of those with the least error
pub record Earliest {A : Type 0} (error : A → ℕ) (xs : List A) (w : A) : Type 0 where
  pub before : List A
  pub later : List A
  pub whole : xs ≡ before ++ (w ∷ later)
  pub below : (x : A) → Memᴰ x before → error w < error x
  pub least : (x : A) → Memᴰ x later → error w ≤ error x
