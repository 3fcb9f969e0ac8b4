-- The own error is the distance of a picture from the one that its blocks show, and never more than the errors of all blocks.
use Prim.Native.Nat.{ℕ, ◌+◌, ◌*◌, ◌≤◌, ◌<◌}
use native.Mathlib.Nat.{mul-one, mul-add}
use native.Mathlib.Omega.{arith}
use mathlib.Core.Path.{◌≡◌, refl, sym, ap, ◌∙◌}
use mathlib.Core.List.{List, map}
use lib.ListN.{length}
use Rattle.lists.specs.Rows.{up_from, sum}
use Rattle.lists.specs.Parts.{part_at}
use Rattle.lists.proofs.Rows.{get_or-each}
use Rattle.lists.proofs.Parts.{part_length}
use Rattle.groups.specs.Cutting.{groups_across, groups_of, picture_of}
use Rattle.groups.proofs.Inverse.{put_back_cut, cut_by_bands, put_back_by_bands}
use Rattle.groups.proofs.Places.{cut-length, put-length}
use Rattle.bptc_block.specs.ReadCall.{read_refusal, read_into}
use Rattle.bptc_block.proofs.ReadCall.{read_number, read-pixels}
use Rattle.figures.specs.Row.{Row, refusal_at, errors_of, shown_at, shown_of, first_of, read_row_of, FirstRefusal}
use Rattle.figures.proofs.Declined.{row_is_first}
use Rattle.own_error.specs.Own.{own_row_of}
use Rattle.own_error.specs.OwnTotal.{pictures_apart, EachPixelOnce, EachPixelRead, AllErrors}
use Rattle.own_error.proofs.Blocks.{own_row}
use Rattle.own_error.proofs.Cuts.{shown_length, joined_same, errors_cut, shown_cut, apart_cut}
use Rattle.own_error.proofs.Rows.{OneRow, FirstRow, by_rows}

module _ (w : ℕ) (wide : 0 < w) where
  -- how many groups a row has
  abbrev a : ℕ
  a = groups_across w

  -- how many h rows of pixels have
  abbrev all : ℕ → ℕ
  all h = a * groups_across h

  -- those of one row of blocks
  all_one : (h : ℕ) → 0 < h → h ≤ 4 → all h ≡ a
  all_one h hh four =
      let one : groups_across h ≡ 1 = omega arith in
      rw (one, mul-one)

  -- those of four rows of pixels more
  all_more : (h : ℕ) → all (4 + h) ≡ a + all h
  all_more h =
      let one : groups_across (4 + h) ≡ 1 + groups_across h = omega arith in
      rw (one, mul-add, mul-one)

  -- a row of groups
  band_long : (band : List ℕ) → length (groups_of w 4 band) ≡ a * 48
  band_long band = cut-length w 4 band ∙ omega arith

  -- the errors of a whole picture
  abbrev errors : ℕ → List ℕ → List ℕ → ℕ
  errors h photo blocks = sum (errors_of (groups_of w h photo) blocks (all h))

  -- those of one row of blocks
  abbrev row_errors : ℕ → List ℕ → List ℕ → ℕ
  row_errors rows groups blocks = sum (errors_of groups blocks a)

  -- where the picture has one row
  one_errors : OneRow w row_errors errors
  one_errors h photo blocks hh four long row = rw (all_one h hh four)

  -- and where it has more
  more_errors : FirstRow w row_errors errors
  more_errors h band rest row others hh of_band of_rest of_row of_others =
      rw (all_more h, cut_by_bands w h band rest wide hh of_band)
      (errors_cut a (all h) (groups_of w 4 band) (groups_of w h rest) row others (band_long band) (omega arith))

  -- the distance of a picture from the one that its blocks show, each over its own group
  abbrev apart : ℕ → List ℕ → List ℕ → ℕ
  apart h photo blocks = pictures_apart (w * h) photo (picture_of w h (shown_of blocks (groups_of w h photo) (all h)))

  -- what one row of blocks adds
  abbrev row_own : ℕ → List ℕ → List ℕ → ℕ
  row_own rows groups blocks = own_row_of w rows groups blocks (errors_of groups blocks a)

  -- where the picture has one row
  one_apart : OneRow w row_own apart
  one_apart h photo blocks hh four long row =
      let of_groups : length (groups_of w h photo) ≡ 48 * a = cut-length w h photo ∙ ap (λ (n : ℕ). 48 * n) (all_one h hh four) in
      rw (all_one h hh four)
      (sym (own_row w h (groups_of w h photo) blocks four of_groups ∙ rw (put_back_cut w h photo wide hh long)))

  -- and where it has more
  more_apart : FirstRow w row_own apart
  more_apart h band rest row others hh of_band of_rest of_row of_others =
      let shown = shown_of row (groups_of w 4 band) a in
      let later = shown_of others (groups_of w h rest) (all h) in
      let put : length (picture_of w 4 shown) ≡ w * 4 * 3 = put-length w 4 shown in
      let of_groups : length (groups_of w 4 band) ≡ 48 * a = band_long band ∙ omega arith in
      rw (
        all_more h,
        cut_by_bands w h band rest wide hh of_band,
        shown_cut a (all h) (groups_of w 4 band) (groups_of w h rest) row others (band_long band) (omega arith),
        put_back_by_bands w h shown later wide hh (shown_length row (groups_of w 4 band) a of_groups),
        mul-add w 4 h,
        apart_cut (w * 4) (w * h) band rest (picture_of w 4 shown) (picture_of w h later) of_band put,
      )
      (ap (λ (s : ℕ). s + apart h rest others)
      (sym (own_row w 4 (groups_of w 4 band) row (omega arith) of_groups ∙ rw (put_back_cut w 4 band wide (omega arith) of_band))))

-- the errors of all blocks, row by row
pub all_errors : AllErrors
all_errors w h photo blocks hw hh long row =
    by_rows w (row_errors w hw) (errors w hw) (one_errors w hw) (more_errors w hw) (groups_across h) h photo blocks hh refl long row

-- each pixel, whatever is read
pub each_pixel_read : EachPixelRead
each_pixel_read w h photo blocks hw hh long row =
    by_rows w (row_own w hw) (apart w hw) (one_apart w hw) (more_apart w hw) (groups_across h) h photo blocks hh refl long row

-- a block that is read shows the same over any pixels
read_anywhere : (block px into : List ℕ) → length px ≡ 48 → length into ≡ 48 → read_refusal block into ≡ 0 →
    read_into block into ≡ read_into block px
unfolding read_refusal
read_anywhere block px into pixels room ok =
    let same : length px ≡ length into = omega arith in
    let other : read_refusal block px ≡ 0 = rw same ok in
    read-pixels block into (read_number block into ∙ ok) ∙ sym (read-pixels block px (read_number block px ∙ other))

-- where all n are read, their refusals are 0
none_declined : (blocks into : List ℕ) (n : ℕ) → read_row_of blocks into n ≡ record { refusal = 0; at = n } →
    (k : ℕ) → k < n → read_refusal (part_at 16 k blocks) (part_at 48 k into) ≡ 0
unfolding refusal_at
none_declined blocks into n e k h =
    let refusals : List ℕ = map (refusal_at blocks into) (up_from 0 n) in
    let first : FirstRefusal (first_of refusals) refusals = row_is_first refusals in
    let at : (first_of refusals).at ≡ n = ap (λ (row : Row). row.at) e in
    sym (get_or-each 0 (refusal_at blocks into) n k h) ∙ first.passed k (omega arith)

-- so that they show the same over any groups
shown_anywhere : (blocks groups into : List ℕ) (n : ℕ) → length groups ≡ 48 * n → length into ≡ 48 * n →
    read_row_of blocks into n ≡ record { refusal = 0; at = n } → shown_of blocks into n ≡ shown_of blocks groups n
unfolding shown_of shown_at
shown_anywhere blocks groups into n long room e =
    joined_same _ _ n
    (λ k h.
    read_anywhere (part_at 16 k blocks) (part_at 48 k groups) (part_at 48 k into) (part_length 48 groups n (omega arith) k h)
    (part_length 48 into n (omega arith) k h)
    (none_declined blocks into n e k h))

-- each pixel once
pub each_pixel_once : EachPixelOnce
each_pixel_once w h photo blocks into hw hh long row room read =
    let n : ℕ = groups_across w * groups_across h in
    each_pixel_read w h photo blocks hw hh long row
    ∙ ap (λ (shown : List ℕ). pictures_apart (w * h) photo (picture_of w h shown))
    (sym (shown_anywhere blocks (groups_of w h photo) into n (cut-length w h photo) room read))
