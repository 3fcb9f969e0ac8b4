-- Laws of a choice by a test, and of tests joined.
use Prim.Native.Nat.{ℕ, ◌≤◌}
use native.Mathlib.Nat.{le_refl}
use mathlib.Core.Path.{◌≡◌, refl}
use mathlib.Core.Bool.{Bool, true, false}
use lib.Dec.{T}
use Rattle.lists.specs.Tests.{pick, and}

-- what holds of both, each where it is picked, holds of what is picked
pub pick_elim {ℓ κ} : {A : Type ℓ} (P : A → Type κ) (t : Bool) {a b : A} → (t ≡ true → P a) → (t ≡ false → P b) → P (pick t a b)
pick_elim P true f g = f refl
pick_elim P false f g = g refl

-- a function of what is picked
pub pick-map {ℓ κ} : {A : Type ℓ} {B : Type κ} (f : A → B) (t : Bool) (a b : A) → f (pick t a b) ≡ pick t (f a) (f b)
pick-map f true a b = refl
pick-map f false a b = refl

-- two sums that pick by the same test
pub pick_le : (t : Bool) {a b : ℕ} → (t ≡ true → a ≤ b) → pick t a 0 ≤ pick t b 0
pick_le true h = h refl
pick_le false h = le_refl 0

-- the first of two tests
pub and_left : (a b : Bool) → T (and a b) → T a
and_left true b t = tt
and_left false b t = t

-- the second
pub and_right : (a b : Bool) → T (and a b) → T b
and_right true b t = t
and_right false b t = absurd t

-- both
pub and-true : (a b : Bool) → and a b ≡ true → (a ≡ true) × (b ≡ true)
and-true true b e = (refl, e)
and-true false b e = (e, cc)

-- a last test
pub and_last : (a : Bool) → and a true ≡ a
and_last true = refl
and_last false = refl
