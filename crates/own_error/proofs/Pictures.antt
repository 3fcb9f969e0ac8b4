-- Each pixel of at most four rows of a picture is one of the sixteen of one block, and the others of the blocks are not its own.
use Prim.Native.Nat.{ℕ, ◌+◌, ◌*◌, ◌/◌, ◌%◌, ◌≤◌, ◌<◌}
use native.Mathlib.Nat.{mul_comm}
use native.Mathlib.Omega.{arith}
use mathlib.Core.Path.{◌≡◌, refl, sym, ap, ◌∙◌}
use mathlib.Core.Bool.{Bool, true, false}
use mathlib.Core.List.{List}
use lib.Dec.{ltb}
use lib.ListN.{get_or}
use borrow.Author.Tests.{ltb-true}
use Rattle.lists.specs.Rows.{sum_to, over_pixels}
use Rattle.lists.specs.Tests.{pick, and}
use Rattle.lists.proofs.Tests.{and-true}
use Rattle.groups.specs.Cutting.{groups_across, picture_of}
use Rattle.groups.proofs.Places.{put-at}
use Rattle.bptc_block.specs.RoundTrip.{pixels_apart}
use Rattle.own_error.specs.Own.{own_pixel}
use Rattle.own_error.proofs.Apart.{pixels_moved}
use Rattle.own_error.proofs.Totals.{to_same, to_zero, to_ranges, to_exchanged, to_within}

-- two numbers that are picked by one test
pick_same : (t : Bool) (a b : ℕ) → (t ≡ true → a ≡ b) → pick t a 0 ≡ pick t b 0
pick_same true a b h = h refl
pick_same false a b h = refl

-- pixel x of row y stands in row y of block x / 4
byte_same : (w rows : ℕ) (xs : List ℕ) (x y c : ℕ) → x < w → y < rows → y < 4 → c < 3 →
    get_or (picture_of w rows xs) ((y * w + x) * 3 + c) 0 ≡ get_or xs ((x / 4 * 16 + (y * 4 + x % 4)) * 3 + c) 0
byte_same w rows xs x y c hx hy four hc =
    let first : y / 4 ≡ 0 = omega arith in
    let row : y % 4 ≡ y = omega arith in
    let place : 48 * (0 * groups_across w + x / 4) + (y * 4 + x % 4) * 3 + c ≡ (x / 4 * 16 + (y * 4 + x % 4)) * 3 + c = omega arith in
    put-at w rows xs x y c hx hy hc ∙ rw (first, row, place)

module _ (w rows : ℕ) (four : rows ≤ 4) (xs ys : List ℕ) where
  -- pixel p of the pictures
  abbrev apart : ℕ → ℕ
  apart = pixels_apart (picture_of w rows xs) (picture_of w rows ys)

  -- pixel x of row y, of which those beyond the edges do not count
  abbrev counted : ℕ → ℕ → ℕ
  counted y x = pick (and (ltb y rows) (ltb x w)) (apart (y * w + x)) 0

  -- pixel i of block k
  abbrev in_block : ℕ → ℕ → ℕ
  in_block k i = pick (own_pixel w rows k i) (pixels_apart xs ys (k * 16 + i)) 0

  -- one pixel's place in both
  pixel_same : (x y : ℕ) → x < w → y < rows → apart (y * w + x) ≡ pixels_apart xs ys (x / 4 * 16 + (y * 4 + x % 4))
  pixel_same x y hx hy =
      pixels_moved (picture_of w rows xs) (picture_of w rows ys) xs ys (y * w + x) (x / 4 * 16 + (y * 4 + x % 4))
      (λ c h. byte_same w rows xs x y c hx hy (omega arith) h)
      (λ c h. byte_same w rows ys x y c hx hy (omega arith) h)

  -- row y of a block, pixel by pixel
  block_pixel : (k y b : ℕ) → y < 4 → b < 4 → in_block k (y * 4 + b) ≡ counted y (k * 4 + b)
  block_pixel k y b hy hb =
      let row : (y * 4 + b) / 4 ≡ y = omega arith in
      let column : (y * 4 + b) % 4 ≡ b = omega arith in
      let group : (k * 4 + b) / 4 ≡ k = omega arith in
      let its : (k * 4 + b) % 4 ≡ b = omega arith in
      rw (row, column)
      (pick_same (and (ltb y rows) (ltb (k * 4 + b) w)) _ _
      (λ t.
      let both = and-true (ltb y rows) (ltb (k * 4 + b) w) t in
      sym (pixel_same (k * 4 + b) y (ltb-true (k * 4 + b) w both.1) (ltb-true y rows both.0) ∙ rw (group, its))))

  -- a row, of which the places beyond the edge do not count
  row_counted : (t : Bool) (y : ℕ) →
      pick t (sum_to (λ (x : ℕ). apart (y * w + x)) w) 0
      ≡ sum_to (λ (x : ℕ). pick (and t (ltb x w)) (apart (y * w + x)) 0) (groups_across w * 4)
  row_counted true y = sym (to_within (λ (x : ℕ). apart (y * w + x)) w (groups_across w * 4) (omega arith))
  row_counted false y = sym (to_zero (groups_across w * 4))

  -- pixel by pixel of the pictures, or block by block
  pub pictures_by_blocks : sum_to apart (w * rows) ≡ sum_to (λ (k : ℕ). over_pixels (in_block k)) (groups_across w)
  unfolding over_pixels
  pictures_by_blocks =
      let a : ℕ = groups_across w in
      ap (sum_to apart) (mul_comm w rows)
      ∙ to_ranges apart rows w
      ∙ sym (to_within (λ (y : ℕ). sum_to (λ (x : ℕ). apart (y * w + x)) w) rows 4 four)
      ∙ to_same _ _ 4 (λ y h. row_counted (ltb y rows) y ∙ to_ranges (counted y) a 4)
      ∙ to_exchanged (λ (y k : ℕ). sum_to (λ (b : ℕ). counted y (k * 4 + b)) 4) 4 a
      ∙ to_same _ _ a
      (λ k h. sym (to_ranges (in_block k) 4 4 ∙ to_same _ _ 4 (λ y hy. to_same _ _ 4 (λ b hb. block_pixel k y b hy hb))))
