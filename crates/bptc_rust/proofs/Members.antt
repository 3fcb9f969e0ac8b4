-- The pixels of a subset, in their order.
use Prim.Native.Nat.{ℕ, ◌+◌, ◌≤◌}
use native.Mathlib.Nat.{zero-add}
use native.Mathlib.Omega.{arith}
use mathlib.Core.Path.{◌≡◌, refl, sym, ap, ◌∙◌}
use mathlib.Core.Bool.{Bool, true, false}
use mathlib.Core.List.{List, [], ◌∷◌, map}
use lib.Dec.{eqb}
use lib.ListN.{length}
use Rattle.lists.specs.Tests.{pick}
use Rattle.lists.specs.Rows.{up_from, sum}
use Rattle.lists.proofs.Tests.{pick_elim}

-- the sixteen pixels
abbrev pub pixels : List ℕ
pixels = up_from 0 16

-- those of a list that lie in subset s
unfoldable pub members : (ℕ → ℕ) → ℕ → List ℕ → List ℕ
members subset s [] = []
members subset s (i ∷ is) = pick (eqb (subset i) s) (i ∷ members subset s is) (members subset s is)

module _ (subset : ℕ → ℕ) (s : ℕ) where
  -- they are no more than the list has
  pub members_few : (is : List ℕ) → length (members subset s is) ≤ length is
  unfolding members
  members_few [] = omega arith
  members_few (i ∷ is) =
      pick_elim (λ (xs : List ℕ). length xs ≤ length (i ∷ is)) (eqb (subset i) s) (λ t. omega (arith, members_few is))
      (λ t. omega (arith, members_few is))

  -- what they sum to
  pub members_sum : (g : ℕ → ℕ) (is : List ℕ) → sum (map g (members subset s is))
      ≡ sum (map (λ (i : ℕ). pick (eqb (subset i) s) (g i) 0) is)
  unfolding members
  members_sum g [] = refl
  members_sum g (i ∷ is) = go (eqb (subset i) s) (members_sum g is)
    where
      rest : ℕ
      rest = sum (map (λ (i : ℕ). pick (eqb (subset i) s) (g i) 0) is)

      go : (t : Bool) → sum (map g (members subset s is)) ≡ rest → sum (map g (pick t (i ∷ members subset s is) (members subset s is)))
          ≡ pick t (g i) 0 + rest
      go true e = ap (λ (n : ℕ). g i + n) e
      go false e = e ∙ sym (zero-add rest)
