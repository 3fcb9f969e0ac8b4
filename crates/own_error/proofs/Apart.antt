-- The distance of a block from its group, by the bytes of both.
use Prim.Native.Nat.{ℕ, ◌+◌, ◌*◌, ◌<◌}
use native.Mathlib.Nat.{add-zero, sub_self}
use native.Mathlib.Omega.{arith}
use mathlib.Core.Path.{◌≡◌, refl, sym, ap, ap₂, ◌∙◌}
use mathlib.Core.Bool.{Bool, true, false}
use mathlib.Core.List.{List}
use lib.Dec.{eqb}
use lib.ListN.{length, get_or}
use borrow.Author.Tests.{eqb-true, eqb-false}
use Rattle.lists.specs.Rows.{over_pixels}
use Rattle.lists.proofs.Rows.{get_or-each}
use Rattle.lists.proofs.Sums.{pixels-same, pixels-none}
use Rattle.bptc.specs.Mode.{Mode, mode_numbered}
use Rattle.bptc.specs.Colour.{clear, pixel_in, pixels_of, sq_diff, squared_distance}
use Rattle.bptc.specs.Internal.Colour.{black, colours_of, dist_sq}
use Rattle.bptc.proofs.ColourBounds.{colour-at}
use Rattle.bptc_block.specs.Fields.{BlockFields}
use Rattle.bptc_block.specs.Answers.{Measured}
use Rattle.bptc_block.specs.Packed.{mode_of, fields_of}
use Rattle.bptc_block.specs.Chapter.{colour_at, apart_at, apart, block_apart}
use Rattle.bptc_block.specs.ReadCall.{read_refusal, read_of, read_into}
use Rattle.bptc_block.specs.MeasureCall.{measure_of}
use Rattle.bptc_block.specs.RoundTrip.{pixels_apart}
use Rattle.bptc_block.proofs.Modes.{Lawful, lawful}
use Rattle.bptc_block.proofs.Widths.{plain_of}
use Rattle.bptc_block.proofs.Packed.{well_formed}
use Rattle.bptc_block.proofs.ReadCall.{read_number, read_leaves, read-pixels, measure-answer, measure-declined}
use Rattle.bptc_block.proofs.RoundTrip.{plain_same, three_channels, shown_pixel}

-- of two pixels
pub colours_apart : (px other : List ℕ) (i : ℕ) → length px ≡ 48 → length other ≡ 48 → i < 16 →
    dist_sq (get_or (colours_of px) i black) (get_or (colours_of other) i black) ≡ pixels_apart px other i
unfolding dist_sq sq_diff
colours_apart px other i long other-long h =
    rw (colour-at px i (omega arith), colour-at other i (omega arith)) refl

-- pixel p of two lists and pixel q of two others, where the bytes are the same
pub pixels_moved : (xs ys xs' ys' : List ℕ) (p q : ℕ) →
    ((c : ℕ) → c < 3 → get_or xs (p * 3 + c) 0 ≡ get_or xs' (q * 3 + c) 0) →
    ((c : ℕ) → c < 3 → get_or ys (p * 3 + c) 0 ≡ get_or ys' (q * 3 + c) 0) →
    pixels_apart xs ys p ≡ pixels_apart xs' ys' q
pixels_moved xs ys xs' ys' p q hx hy =
    rw (
      simp add-zero at (hx 0 (omega arith)),
      simp add-zero at (hy 0 (omega arith)),
      hx 1 (omega arith),
      hy 1 (omega arith),
      hx 2 (omega arith),
      hy 2 (omega arith),
    )

-- pixels are at no distance from themselves
pub none_apart : (px : List ℕ) → over_pixels (pixels_apart px px) ≡ 0
none_apart px = pixels-none (pixels_apart px px) (λ i h. simp sub_self)

-- a block that is read
module _ (block px : List ℕ) (ok : read_refusal block px ≡ 0) where
  -- the mode that the block says
  abbrev m : Mode
  m = mode_numbered (mode_of block)

  -- and its fields
  abbrev f : BlockFields
  f = fields_of m block

  -- its reading is answered
  answered : (read_of block px).refusal ≡ 0
  answered = read_number block px ∙ ok

  -- each pixel read has its colour
  shown : (i : ℕ) → i < 16 → pixel_in 3 (read_into block px) i ≡ colour_at m f i
  shown i h =
      let law : Lawful m = lawful (mode_of block) in
      rw (read-pixels block px answered)
      (shown_pixel m law (three_channels (mode_of block)) f (plain_of m f (well_formed m law block)) i h)

  -- its error is the distance from what it is read as
  read_error : (measure_of block px).error ≡ over_pixels (pixels_apart px (read_into block px))
  unfolding block_apart apart apart_at pixels_of squared_distance sq_diff
  read_error =
      ap (λ (a : Measured). a.error) (measure-answer block px answered)
      ∙ pixels-same _ (pixels_apart px (read_into block px))
      (λ i h.
      ap₂ squared_distance (get_or-each clear (pixel_in 3 px) 16 i h) (sym (shown i h))
      ∙ ap₂ squared_distance (sym (plain_same px i)) (sym (plain_same (read_into block px) i)))

-- a block that is declined has error 0 and leaves the pixels
pub error_apart : (block px : List ℕ) → (measure_of block px).error ≡ over_pixels (pixels_apart px (read_into block px))
error_apart block px = go (eqb (read_refusal block px) 0) refl
  where
    go : (t : Bool) → eqb (read_refusal block px) 0 ≡ t →
        (measure_of block px).error ≡ over_pixels (pixels_apart px (read_into block px))
    go true e = read_error block px (eqb-true (read_refusal block px) 0 e)
    go false e =
        let ne : read_refusal block px ≡ 0 → ⊥ = eqb-false (read_refusal block px) 0 e in
        rw (measure-declined block px ne, read_leaves block px (λ z. ne (sym (read_number block px) ∙ z)), none_apart px)
