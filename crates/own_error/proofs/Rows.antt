-- Sums over the rows of blocks of a picture.
use Prim.Native.Nat.{ℕ, zero, suc, ◌+◌, ◌-◌, ◌*◌, ◌%◌, ◌≤◌, ◌<◌}
use native.Mathlib.Nat.{mul-one, mul-add, mul-suc}
use native.Mathlib.Omega.{arith}
use mathlib.Core.Path.{◌≡◌, refl, sym, ap, ap₂, ◌∙◌}
use mathlib.Core.List.{List, ◌++◌}
use lib.ListN.{length, take, drop, length-drop}
use lib.Seq.{length-take-le, take_all}
use Rattle.std.proofs.lemmas.List.{take-append-drop}
use Rattle.std.specs.Prelude.{min}
use Rattle.groups.specs.Cutting.{groups_across, groups_of}
use Rattle.own_error.specs.OwnTotal.{over_rows, own_rows, block_rows, NoMore, SameByFours}
use Rattle.own_error.proofs.Blocks.{row_less, row_whole}

-- no row adds more than its blocks' errors
pub no_more : NoMore
unfolding over_rows
no_more zero w h photo blocks = omega arith
no_more (suc n) w h photo blocks =
    omega (
      arith,
      row_less w (min 4 h) (groups_of w (min 4 h) (take (w * min 4 h * 3) photo)) (take (16 * groups_across w) blocks),
      no_more n w (h - 4) (drop (w * min 4 h * 3) photo) (drop (16 * groups_across w) blocks),
    )

-- rows of four
by_fours : (n w h : ℕ) (photo blocks : List ℕ) → w % 4 ≡ 0 → h ≡ 4 * n → own_rows n w h photo blocks ≡ block_rows n w h photo blocks
unfolding over_rows
by_fours zero w h photo blocks even e = refl
by_fours (suc n) w h photo blocks even e =
    ap₂ ◌+◌
    (row_whole w (min 4 h) (groups_of w (min 4 h) (take (w * min 4 h * 3) photo)) (take (16 * groups_across w) blocks) (omega arith) even)
    (by_fours n w (h - 4) (drop (w * min 4 h * 3) photo) (drop (16 * groups_across w) blocks) even (omega arith))

-- all rows of a picture whose sides are multiples of 4
pub same_by_fours : SameByFours
same_by_fours w h photo blocks even four = by_fours (groups_across h) w h photo blocks even (omega arith)

-- a total of a picture, by its height, its pixels and its blocks, and a figure of one row of blocks
module _ (w : ℕ) (figure : ℕ → List ℕ → List ℕ → ℕ) (total : ℕ → List ℕ → List ℕ → ℕ) where
  -- the total of one row is its figure
  abbrev pub OneRow : Type 0
  OneRow =
      (h : ℕ) (photo blocks : List ℕ) → 0 < h → h ≤ 4 → length photo ≡ w * h * 3 → length blocks ≡ 16 * groups_across w →
      total h photo blocks ≡ figure h (groups_of w h photo) blocks

  -- that of more rows is the figure of the first and the total of the others
  abbrev pub FirstRow : Type 0
  FirstRow =
      (h : ℕ) (band rest row others : List ℕ) → 0 < h → length band ≡ w * 4 * 3 → length rest ≡ w * h * 3 →
      length row ≡ 16 * groups_across w → length others ≡ 16 * (groups_across w * groups_across h) →
      total (4 + h) (band ++ rest) (row ++ others) ≡ figure 4 (groups_of w 4 band) row + total h rest others

  -- so that the total is the sum over all rows
  pub by_rows : OneRow → FirstRow → (n h : ℕ) (photo blocks : List ℕ) → 0 < h → n ≡ groups_across h → length photo ≡ w * h * 3 →
      length blocks ≡ 16 * (groups_across w * n) → over_rows figure n w h photo blocks ≡ total h photo blocks
  unfolding over_rows
  by_rows one first zero h photo blocks hh e long wide = absurd (omega arith)
  by_rows one first (suc zero) h photo blocks hh e long wide =
      let all : min 4 h ≡ h = omega arith in
      let row : length blocks ≡ 16 * groups_across w = rw mul-one at wide in
      rw (all, take_all (w * h * 3) photo (omega arith), take_all (16 * groups_across w) blocks (omega arith))
      (omega (arith, one h photo blocks hh (omega arith) long row))
  by_rows one first (suc (suc n)) h photo blocks hh e long wide =
      let a : ℕ = groups_across w in
      let four : min 4 h ≡ 4 = omega arith in
      let height : 4 + (h - 4) ≡ h = omega arith in
      let rows : groups_across (h - 4) ≡ suc n = omega arith in
      let band = take (w * 4 * 3) photo in
      let rest = drop (w * 4 * 3) photo in
      let row = take (16 * a) blocks in
      let others = drop (16 * a) blocks in
      let pixels : w * h * 3 ≡ w * 4 * 3 + w * (h - 4) * 3 =
      ap (λ (h : ℕ). w * h * 3) (sym height) ∙ rw (mul-add w 4 (h - 4)) (omega arith) in
      let bytes : 16 * (a * suc (suc n)) ≡ 16 * a + 16 * (a * suc n) = rw (mul-suc a (suc n)) (omega arith) in
      let of_band : length band ≡ w * 4 * 3 = length-take-le _ photo (omega arith) in
      let of_rest : length rest ≡ w * (h - 4) * 3 = simp length-drop (omega arith) in
      let of_row : length row ≡ 16 * a = length-take-le _ blocks (omega arith) in
      let of_others : length others ≡ 16 * (a * suc n) = simp length-drop (omega arith) in
      rw four
      (ap (λ (s : ℕ). figure 4 (groups_of w 4 band) row + s)
      (by_rows one first (suc n) (h - 4) rest others (omega arith) (sym rows) of_rest of_others)
      ∙ sym (first (h - 4) band rest row others (omega arith) of_band of_rest of_row (rw rows of_others))
      ∙ rw (height, take-append-drop (w * 4 * 3) photo, take-append-drop (16 * a) blocks))
