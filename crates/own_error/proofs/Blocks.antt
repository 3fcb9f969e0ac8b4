-- What a row of blocks adds, and the errors of its blocks.
use Prim.Native.Nat.{ℕ, ◌+◌, ◌*◌, ◌/◌, ◌%◌, ◌≤◌, ◌<◌}
use native.Mathlib.Nat.{le_refl}
use native.Mathlib.Omega.{arith}
use mathlib.Core.Path.{◌≡◌, refl, sym, ◌∙◌}
use mathlib.Core.Bool.{true}
use mathlib.Core.List.{List}
use lib.Dec.{eqb, leb}
use lib.ListN.{length, get_or, drop}
use borrow.Author.Tests.{eqb-true, eq-eqb, leb-true, le-leb, lt-ltb}
use Rattle.std.proofs.lemmas.List.{get_or-take, get_or-drop}
use Rattle.lists.specs.Rows.{sum, sum_to, over_pixels}
use Rattle.lists.specs.Parts.{part_at}
use Rattle.lists.specs.Tests.{pick}
use Rattle.lists.proofs.Rows.{get_or-each}
use Rattle.lists.proofs.Sums.{pixels_le, pixels-same}
use Rattle.lists.proofs.Parts.{joined_at}
use Rattle.lists.proofs.Tests.{pick_elim, and-true}
use Rattle.groups.specs.Cutting.{groups_across, picture_of}
use Rattle.bptc_block.specs.ReadCall.{read_into}
use Rattle.bptc_block.specs.RoundTrip.{pixels_apart}
use Rattle.figures.specs.Row.{measured_at, errors_of, shown_at, shown_of}
use Rattle.own_error.specs.Own.{own_pixel, whole, own_apart, own_at, own_row_of}
use Rattle.own_error.specs.OwnTotal.{pictures_apart}
use Rattle.own_error.proofs.Totals.{to_same, to_le}
use Rattle.own_error.proofs.Apart.{pixels_moved, error_apart}
use Rattle.own_error.proofs.Cuts.{shown_wide}
use Rattle.own_error.proofs.Pictures.{pictures_by_blocks}

-- byte c of pixel i of part k
part_byte : (xs : List ℕ) (k i c : ℕ) → i < 16 → c < 3 → get_or (part_at 48 k xs) (i * 3 + c) 0 ≡ get_or xs ((k * 16 + i) * 3 + c) 0
part_byte xs k i c h hc =
    let place : k * 48 + (i * 3 + c) ≡ (k * 16 + i) * 3 + c = omega arith in
    get_or-take 48 (drop (k * 48) xs) (i * 3 + c) 0 (omega arith) ∙ get_or-drop (k * 48) xs (i * 3 + c) 0 ∙ rw place

-- pixel i of part k of two lists
part_apart : (xs ys : List ℕ) (k i : ℕ) → i < 16 → pixels_apart (part_at 48 k xs) (part_at 48 k ys) i ≡ pixels_apart xs ys (k * 16 + i)
part_apart xs ys k i h =
    pixels_moved (part_at 48 k xs) (part_at 48 k ys) xs ys i (k * 16 + i) (λ c. part_byte xs k i c h) (λ c. part_byte ys k i c h)

-- every pixel of a whole block is one of the picture's own
whole_own : (w rows k i : ℕ) → i < 16 → whole w rows k ≡ true → own_pixel w rows k i ≡ true
whole_own w rows k i h t =
    let both = and-true (eqb rows 4) (leb (k * 4 + 4) w) t in
    let four : rows ≡ 4 = eqb-true rows 4 both.0 in
    let wide : k * 4 + 4 ≤ w = leb-true (k * 4 + 4) w both.1 in
    rw (lt-ltb (i / 4) rows (omega arith), lt-ltb (k * 4 + i % 4) w (omega arith))

module _ (w rows : ℕ) (groups blocks : List ℕ) where
  -- the group of block k
  abbrev group : ℕ → List ℕ
  group k = part_at 48 k groups

  -- what it shows there
  abbrev other : ℕ → List ℕ
  other k = read_into (part_at 16 k blocks) (group k)

  -- its error among those of n blocks
  error_at : (n k : ℕ) → k < n → get_or (errors_of groups blocks n) k 0 ≡ over_pixels (pixels_apart (group k) (other k))
  unfolding errors_of measured_at
  error_at n k h =
      get_or-each 0 (λ (k : ℕ). (measured_at groups blocks k).error) n k h ∙ error_apart (part_at 16 k blocks) (group k)

  -- a whole block's own pixels are all its pixels
  whole_apart : (k : ℕ) → whole w rows k ≡ true → own_apart w rows k (group k) (other k) ≡ over_pixels (pixels_apart (group k) (other k))
  unfolding own_apart
  whole_apart k t = pixels-same _ _ (λ i h. rw (whole_own w rows k i h t))

  -- so that each block adds the distance over its own pixels
  own_measured : (n k : ℕ) → k < n → own_at w rows groups blocks (errors_of groups blocks n) k ≡ own_apart w rows k (group k) (other k)
  unfolding own_at
  own_measured n k h =
      pick_elim (λ (d : ℕ). d ≡ own_apart w rows k (group k) (other k)) (whole w rows k)
      (λ t. error_at n k h ∙ sym (whole_apart k t))
      (λ t. refl)

  -- among the groups that n blocks show
  module _ (n : ℕ) (long : length groups ≡ 48 * n) where
    -- part k is what block k shows
    shown_part : (k : ℕ) → k < n → part_at 48 k (shown_of blocks groups n) ≡ other k
    unfolding shown_at shown_of
    shown_part k h = joined_at 48 (shown_at blocks groups) n k (shown_wide blocks groups n long) h

    -- its own pixels, by their places among all groups
    own_places : (k : ℕ) → k < n →
        own_apart w rows k (group k) (other k)
        ≡ over_pixels (λ (i : ℕ). pick (own_pixel w rows k i) (pixels_apart groups (shown_of blocks groups n) (k * 16 + i)) 0)
    unfolding own_apart
    own_places k h =
        pixels-same _ _ (λ i l. rw (← shown_part k h, part_apart groups (shown_of blocks groups n) k i l))

  -- a row adds the distance of its pixels from those shown, each once
  pub own_row : rows ≤ 4 → length groups ≡ 48 * groups_across w →
      own_row_of w rows groups blocks (errors_of groups blocks (groups_across w))
      ≡ pictures_apart (w * rows) (picture_of w rows groups) (picture_of w rows (shown_of blocks groups (groups_across w)))
  unfolding own_row_of
  own_row four long =
      to_same _ _ (groups_across w) (λ k h. own_measured (groups_across w) k h ∙ own_places (groups_across w) long k h)
      ∙ sym (pictures_by_blocks w rows four groups (shown_of blocks groups (groups_across w)))

  -- its blocks' errors
  error_sum : (n : ℕ) → sum (errors_of groups blocks n) ≡ sum_to (λ (k : ℕ). over_pixels (pixels_apart (group k) (other k))) n
  unfolding errors_of measured_at
  error_sum n = to_same _ _ n (λ k h. error_apart (part_at 16 k blocks) (group k))

  -- the own pixels of a block are no further than all its pixels
  own_less : (k : ℕ) → own_apart w rows k (group k) (other k) ≤ over_pixels (pixels_apart (group k) (other k))
  unfolding own_apart
  own_less k =
      pixels_le _ (pixels_apart (group k) (other k))
      (λ i h. pick_elim (λ (d : ℕ). d ≤ pixels_apart (group k) (other k) i) (own_pixel w rows k i) (λ t. le_refl _) (λ t. omega arith))

  -- a row adds no more than these
  pub row_less :
      own_row_of w rows groups blocks (errors_of groups blocks (groups_across w)) ≤ sum (errors_of groups blocks (groups_across w))
  unfolding own_row_of
  row_less =
      rw (error_sum (groups_across w))
      (to_le _ _ (groups_across w) (λ k h. rw (own_measured (groups_across w) k h) (own_less k)))

  -- and these where it has four rows and its width is a multiple of 4
  pub row_whole : rows ≡ 4 → w % 4 ≡ 0 →
      own_row_of w rows groups blocks (errors_of groups blocks (groups_across w)) ≡ sum (errors_of groups blocks (groups_across w))
  unfolding own_row_of
  row_whole four even =
      to_same _ _ (groups_across w)
      (λ k h.
      own_measured (groups_across w) k h
      ∙ whole_apart k (rw (eq-eqb rows 4 four, le-leb (k * 4 + 4) w (omega arith))))
      ∙ sym (error_sum (groups_across w))
