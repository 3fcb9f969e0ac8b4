-- The box around a subset's colours is the smallest: each face touches a pixel.
use Prim.Native.Nat.{ℕ, zero, suc, ◌-◌, ◌≤◌, ◌<◌, min, max}
use native.Mathlib.Nat.{eq-zero-or-pos}
use native.Mathlib.Omega.{arith}
use mathlib.Core.Path.{◌≡◌, refl, sym}
use mathlib.Core.Logic.{◌⊎◌, inl, inr}
use mathlib.Core.List.{List}
use lib.Dec.{eqb}
use lib.ListN.{get_or}
use borrow.Author.Tests.{eqb-true}
use Rattle.lists.proofs.Tests.{pick_elim}
use Rattle.bptc.specs.declared.Rgb.{Rgb}
use Rattle.bptc.specs.Internal.Colour.{black, both, Below, colours_of}
use Rattle.bptc.specs.Partition.{subset_of}
use Rattle.bptc.proofs.ColourBounds.{pixels-shown}
use Rattle.corners.specs.declared.Bounds.{Bounds}
use Rattle.corners.specs.Corners.{nowhere, widened, box_to, corners_to, corners_of, Inside, Touched, Tight}
use Rattle.corners.proofs.Boxing.{boxed}

-- the lesser of two numbers is one of them
min_one : (a b : ℕ) → (min a b ≡ a) ⊎ (min a b ≡ b)
min_one a b = elim (eq-zero-or-pos (a - b)) [ inl h ↦ inl (omega arith) | inr h ↦ inr (omega arith) ]

-- and so is the greater
max_one : (a b : ℕ) → (max a b ≡ a) ⊎ (max a b ≡ b)
max_one a b = elim (eq-zero-or-pos (b - a)) [ inl h ↦ inl (omega arith) | inr h ↦ inr (omega arith) ]

-- a face of the box, which a colour that widens the box leaves where it is or moves to the colour's channel
module _ (px : List ℕ) (partition s : ℕ) (channel : Rgb → ℕ) (face : Bounds → ℕ)
    (moves : (k : Bounds) (c : Rgb) → (face (widened k c) ≡ face k) ⊎ (face (widened k c) ≡ channel c)) where
  -- it stands where it began, or touches one of the first n pixels
  abbrev Stands : ℕ → Bounds → Type 0
  Stands n k = (face k ≡ face nowhere) ⊎ Touched px partition s n channel (face k)

  -- then also with one pixel more
  later : (n : ℕ) {k : Bounds} → Stands n k → Stands (suc n) k
  later n (inl e) = inl e
  later n (inr t) = inr (record { pixel = t.pixel; inside = omega (arith, t.inside); member = t.member; same = t.same })

  -- so it stands after n pixels
  stands : (n : ℕ) → Stands n (corners_to px partition s n)
  unfolding corners_to box_to
  stands zero = inl refl
  stands (suc n) =
      let k : Bounds = corners_to px partition s n in
      let c : Rgb = get_or (colours_of px) n black in
      pick_elim (Stands (suc n)) (eqb (subset_of 2 partition n) s)
      (λ t. elim (moves k c) [
        | inl e ↦ rw e (later n {k = k} (stands n))
        | inr e ↦ inr (record { pixel = n; inside = omega arith; member = eqb-true _ _ t; same = sym e })
      ])
      (λ t. later n {k = k} (stands n))

  -- after all it touches one: where it has not moved, a pixel that is known to be in the subset
  touches : (i : ℕ) → i < 16 → subset_of 2 partition i ≡ s →
      (face (corners_of px partition s) ≡ face nowhere → channel (get_or (colours_of px) i black) ≡ face (corners_of px partition s)) →
      Touched px partition s 16 channel (face (corners_of px partition s))
  unfolding corners_of
  touches i h e unmoved =
      elim (stands 16) [
        | inl began ↦ record { pixel = i; inside = h; member = e; same = unmoved began }
        | inr t ↦ t
      ]

-- both faces of a channel, of a subset that has a pixel
module _ (px : List ℕ) (partition s i : ℕ) (h : i < 16) (e : subset_of 2 partition i ≡ s) (channel : Rgb → ℕ)
    (at_each : (f : ℕ → ℕ → ℕ) (c d : Rgb) → channel (both f c d) ≡ f (channel c) (channel d)) where
  -- the colour of the pixel
  abbrev c : Rgb
  c = get_or (colours_of px) i black

  -- the lower one
  low_touches : channel nowhere.low ≡ 255 → channel (corners_of px partition s).low ≤ channel c → channel c < 256 →
      Touched px partition s 16 channel (channel (corners_of px partition s).low)
  unfolding widened
  low_touches white above byte =
      touches px partition s channel (λ (k : Bounds). channel k.low)
      (λ k d. rw (at_each min k.low d) (min_one (channel k.low) (channel d)))
      i h e (λ began. omega arith)

  -- the upper one
  high_touches : channel nowhere.high ≡ 0 → channel c ≤ channel (corners_of px partition s).high →
      Touched px partition s 16 channel (channel (corners_of px partition s).high)
  unfolding widened
  high_touches none below =
      touches px partition s channel (λ (k : Bounds). channel k.high)
      (λ k d. rw (at_each max k.high d) (max_one (channel k.high) (channel d)))
      i h e (λ began. omega arith)

-- each face of the box
pub tight : Tight
tight px partition s i bytes h e =
    let k : Inside (corners_of px partition s) (get_or (colours_of px) i black) = boxed px partition s i h e in
    let shown : Below 256 (get_or (colours_of px) i black) = pixels-shown px bytes i in (
      record {
        r = low_touches px partition s i h e (λ (c : Rgb). c.r) (λ f c d. refl) refl k.above.r shown.r;
        g = low_touches px partition s i h e (λ (c : Rgb). c.g) (λ f c d. refl) refl k.above.g shown.g;
        b = low_touches px partition s i h e (λ (c : Rgb). c.b) (λ f c d. refl) refl k.above.b shown.b;
      },
      record {
        r = high_touches px partition s i h e (λ (c : Rgb). c.r) (λ f c d. refl) refl k.below.r;
        g = high_touches px partition s i h e (λ (c : Rgb). c.g) (λ f c d. refl) refl k.below.g;
        b = high_touches px partition s i h e (λ (c : Rgb). c.b) (λ f c d. refl) refl k.below.b;
      },
    )
