-- Laws of the box around a subset's colours: how it grows pixel by pixel, and what lies in it.
use Prim.Native.Nat.{ℕ, zero, suc, ◌+◌, ◌-◌, ◌%◌, ◌<◌, min, max}
use native.Mathlib.Nat.{le_trans, min-le_left, min-le_right, le-max_left, le-max_right, eq-or-lt_of_le}
use native.Mathlib.Numerals.{add-one}
use native.Mathlib.Omega.{arith}
use mathlib.Core.Path.{◌≡◌, refl, ap, sym, ◌∙◌}
use mathlib.Core.Logic.{inl, inr}
use mathlib.Core.Bool.{Bool, true, false}
use mathlib.Core.List.{List, map}
use lib.Bits.{bit_and, bit_or, and_mask, and_zero_r, or_zero_r, or_add_and}
use lib.Dec.{eqb}
use lib.ListN.{get_or}
use borrow.Author.Tests.{eqb-true, eqb-false}
use Rattle.lists.specs.Bytes.{Bytes}
use Rattle.lists.specs.Tests.{pick}
use Rattle.lists.specs.Rows.{up_from}
use Rattle.lists.specs.Digits.{bit}
use Rattle.lists.proofs.Tests.{pick_elim}
use Rattle.lists.proofs.Rows.{get_or-each}
use Rattle.bptc.specs.declared.Rgb.{Rgb}
use Rattle.bptc.specs.Internal.Colour.{black, Below, colours_of}
use Rattle.bptc.specs.Internal.Masks.{mask_of}
use Rattle.bptc.specs.Partition.{subset_of}
use Rattle.bptc.proofs.ColourBounds.{below-black, pixels-shown}
use Rattle.corners.specs.declared.Bounds.{Bounds}
use Rattle.corners.specs.Corners.{nowhere, widened, box_to, corners_to, corners_of, planes_of, colour_in, boxes_of, Inside, Boxed}

module _ (k : Bounds) (c : Rgb) where
  -- a box that was widened by a colour holds it
  widened-holds : Inside (widened k c) c
  unfolding widened
  widened-holds =
      record {
        above =
            record {
              r = min-le_right k.low.r c.r;
              g = min-le_right k.low.g c.g;
              b = min-le_right k.low.b c.b;
            };
        below =
            record {
              r = le-max_right k.high.r c.r;
              g = le-max_right k.high.g c.g;
              b = le-max_right k.high.b c.b;
            };
      }

  -- and what it held before
  widened-keeps : (d : Rgb) → Inside k d → Inside (widened k c) d
  unfolding widened
  widened-keeps d h =
      record {
        above =
            record {
              r = le_trans (min-le_left k.low.r c.r) h.above.r;
              g = le_trans (min-le_left k.low.g c.g) h.above.g;
              b = le_trans (min-le_left k.low.b c.b) h.above.b;
            };
        below =
            record {
              r = le_trans h.below.r (le-max_left k.high.r c.r);
              g = le_trans h.below.g (le-max_left k.high.g c.g);
              b = le_trans h.below.b (le-max_left k.high.b c.b);
            };
      }

-- the corners of a box have bytes for channels
pub record ShownBounds (k : Bounds) : Type 0 where
  pub low : Below 256 k.low
  pub high : Below 256 k.high

-- also when it is widened by such a colour
widened-shown : (k : Bounds) (c : Rgb) → ShownBounds k → Below 256 c → ShownBounds (widened k c)
unfolding widened
widened-shown k c h s =
    record {
      low =
          record {
            r = omega (arith, min-le_left k.low.r c.r, h.low.r);
            g = omega (arith, min-le_left k.low.g c.g, h.low.g);
            b = omega (arith, min-le_left k.low.b c.b, h.low.b);
          };
      high =
          record {
            r = omega (arith, h.high.r, s.r);
            g = omega (arith, h.high.g, s.g);
            b = omega (arith, h.high.b, s.b);
          };
    }

-- marks in place of tests: a channel's lesser and greater number, by a mark of 0 where a colour is inside and 255 where it is not
module _ (a x outside : ℕ) where
  pub marked-lesser : a < 256 → x < 256 → outside < 256 → outside % 255 ≡ 0 → min a (bit_or x outside) ≡ pick (eqb outside 0) (min a x) a
  marked-lesser low byte mark whole = go (eqb outside 0) refl
    where
      go : (t : Bool) → eqb outside 0 ≡ t → min a (bit_or x outside) ≡ pick t (min a x) a
      go true e = rw (eqb-true outside 0 e, or_zero_r x)
      go false e =
          let m : outside ≡ 255 = omega (arith, eqb-false outside 0 e) in
          rw m (omega (arith, or_add_and x 255, and_mask x 8))

  pub marked-greater : x < 256 → outside < 256 → outside % 255 ≡ 0 → max a (bit_and x (255 - outside)) ≡ pick (eqb outside 0) (max a x) a
  marked-greater byte mark whole = go (eqb outside 0) refl
    where
      go : (t : Bool) → eqb outside 0 ≡ t → max a (bit_and x (255 - outside)) ≡ pick t (max a x) a
      go true e = rw (eqb-true outside 0 e) (omega (arith, and_mask x 8))
      go false e =
          let m : 255 - outside ≡ 0 = omega (arith, eqb-false outside 0 e) in
          rw (m, and_zero_r x) (omega arith)

-- a box is picked as its channels are
pub box_picked : (t : Bool) (k l : Bounds) →
    ◌≡◌ {A = Bounds}
    (record {
      low = record { r = pick t l.low.r k.low.r; g = pick t l.low.g k.low.g; b = pick t l.low.b k.low.b };
      high = record { r = pick t l.high.r k.high.r; g = pick t l.high.g k.high.g; b = pick t l.high.b k.high.b };
    })
    (pick t l k)
box_picked true k l = refl
box_picked false k l = refl

-- boxes around colours that a test picks
module _ (colour : ℕ → Rgb) (inside : ℕ → Bool) where
  -- before the first colour
  pub box_none : box_to colour inside 0 ≡ nowhere
  unfolding box_to
  box_none = refl

  -- one more
  pub box_next : (i : ℕ) → box_to colour inside (i + 1) ≡ pick (inside i) (widened (box_to colour inside i) (colour i)) (box_to colour inside i)
  unfolding box_to
  box_next i = rw add-one

-- the same colours and tests make the same box
box_same : (f g : ℕ → Rgb) (s t : ℕ → Bool) (n : ℕ) → ((i : ℕ) → i < n → f i ≡ g i) → ((i : ℕ) → i < n → s i ≡ t i) → box_to f s n ≡ box_to g t n
unfolding box_to
box_same f g s t zero h k = refl
box_same f g s t (suc n) h k =
    rw (h n (omega arith), k n (omega arith), box_same f g s t n (λ i l. h i (omega arith)) (λ i l. k i (omega arith)))

-- the boxes of planes are the corners of both subsets
pub boxes_corners : (px : List ℕ) (partition : ℕ) →
    boxes_of (planes_of px) (mask_of partition) ≡ record { first = corners_of px partition 0; second = corners_of px partition 1 }
unfolding boxes_of planes_of corners_of corners_to subset_of
boxes_corners px partition =
    let plane : (f : Rgb → ℕ) (i : ℕ) → i < 16 → get_or (map (λ (i : ℕ). f (get_or (colours_of px) i black)) (up_from 0 16)) i 0 ≡ f (get_or (colours_of px) i black) =
    λ f i h. get_or-each 0 (λ (i : ℕ). f (get_or (colours_of px) i black)) 16 i h in
    let colour : (i : ℕ) → i < 16 → colour_in (planes_of px) i ≡ get_or (colours_of px) i black =
    λ i h t. record { r = plane (λ (c : Rgb). c.r) i h t; g = plane (λ (c : Rgb). c.g) i h t; b = plane (λ (c : Rgb). c.b) i h t } in
    let same : (s : ℕ) → box_to (colour_in (planes_of px)) (λ (i : ℕ). eqb (bit (mask_of partition) i) s) 16 ≡ corners_of px partition s =
    λ s. box_same (colour_in (planes_of px)) (λ (i : ℕ). get_or (colours_of px) i black) (λ (i : ℕ). eqb (bit (mask_of partition) i) s) (λ (i : ℕ). eqb (subset_of 2 partition i) s) 16 colour (λ i h. refl) in
    λ t. record {
      first = same 0 t;
      second = same 1 t;
    }

module _ (px : List ℕ) (partition s : ℕ) where
  -- the box around the pixels of the subset among the first n holds each of them
  boxed_to : (i n : ℕ) → i < n → subset_of 2 partition i ≡ s → Inside (corners_to px partition s n) (get_or (colours_of px) i black)
  unfolding corners_to box_to
  boxed_to i zero h e = absurd (omega arith)
  boxed_to i (suc n) h e =
      let c : Rgb = get_or (colours_of px) i black in
      elim (eq-or-lt_of_le {n = i} {m = n} (omega arith)) [
        | inl same ↦ pick_elim (λ (k : Bounds). Inside k c) (eqb (subset_of 2 partition n) s)
            (λ t. rw same (widened-holds (corners_to px partition s n) (get_or (colours_of px) n black)))
            (λ t. absurd (eqb-false _ _ t (ap (subset_of 2 partition) (sym same) ∙ e)))
        | inr less ↦ pick_elim (λ (k : Bounds). Inside k c) (eqb (subset_of 2 partition n) s)
            (λ t. widened-keeps (corners_to px partition s n) (get_or (colours_of px) n black) c (boxed_to i n less e))
            (λ t. boxed_to i n less e)
      ]

  -- after n pixels the corners have bytes for channels
  shown_to_lem : Bytes px → (n : ℕ) → ShownBounds (corners_to px partition s n)
  unfolding corners_to box_to
  shown_to_lem bytes zero =
      record { low = record { r = omega arith; g = omega arith; b = omega arith }; high = below-black 256 (omega arith) }
  shown_to_lem bytes (suc n) =
      pick_elim ShownBounds (eqb (subset_of 2 partition n) s)
      (λ t. widened-shown (corners_to px partition s n) (get_or (colours_of px) n black) (shown_to_lem bytes n) (pixels-shown px bytes n))
      (λ t. shown_to_lem bytes n)

  -- and so after all of them
  pub corners_shown : Bytes px → ShownBounds (corners_of px partition s)
  unfolding corners_of
  corners_shown bytes = shown_to_lem bytes 16

-- every pixel of a subset lies in the box around the subset
pub boxed : Boxed
unfolding corners_of
boxed px partition s i h e = boxed_to px partition s i 16 h e
