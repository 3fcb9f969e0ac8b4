-- Where bytes stand in a picture and among its groups.
use Prim.Native.Nat.{ℕ, ◌+◌, ◌*◌, ◌/◌, ◌%◌, ◌<◌}
use native.Mathlib.Nat.{add-mul, mul_comm, add-div_left, add-mod_left, mul-add-div, mul-add-mod_self_left, div-add-mod', mod-lt}
use native.Mathlib.Omega.{arith}
use mathlib.Core.Path.{◌≡◌}
use Rattle.groups.specs.Cutting.{groups_across, inside, column_of, row_of, source_of, place_of}
use Rattle.groups.proofs.Grid.{its_row, its_column, before-row, row_before, pixel_inside, channel-inside, grouped_column, grouped_row, grouped_channel, grouped_below, grouped_again, band_row, later_group, later-row, later_column, later-channel, inside-later, channel-later}

-- byte j of a picture
module _ (w h j : ℕ) (hw : 0 < w) (l : j < w * h * 3) where
  -- it stands among the groups' bytes
  pub place-below : place_of w j < 48 * (groups_across w * groups_across h)
  unfolding place_of
  place-below =
      let b = pixel_inside w h j hw l in
      grouped_below w (j / 3 % w) (j / 3 / w) (j % 3) (omega (arith, b.0)) (omega arith) h (omega (arith, b.1))

  -- and comes from where it was
  pub source-place : source_of w h (place_of w j) ≡ j
  unfolding source_of place_of
  source-place =
      let x = j / 3 % w in
      let y = j / 3 / w in
      let b = pixel_inside w h j hw l in
      let hx : x < 4 * groups_across w = omega (arith, b.0) in
      let hk : j % 3 < 3 = omega arith in
      rw (
        grouped_column w x y (j % 3) hx hk,
        grouped_row w x y (j % 3) hx hk,
        grouped_channel w x y (j % 3) hx hk,
        channel-inside w h x y (j % 3) b.0 b.1,
        div-add-mod' (j / 3) w,
      )
      (omega arith)

-- byte g of the groups stands in the picture
pub source-below : (w h g : ℕ) → 0 < w → 0 < h → source_of w h g < w * h * 3
unfolding source_of
source-below w h g hw hh =
    let x = inside w (column_of w g) in
    let y = inside h (row_of w g) in
    omega (arith, before-row w x y (omega arith) h (omega arith), mul_comm w h)

-- byte g of the groups of a picture whose sides are multiples of 4
module _ (w h g : ℕ) (hw : 0 < w) (ew : w % 4 ≡ 0) (eh : h % 4 ≡ 0) (l : g < 48 * (groups_across w * groups_across h)) where
  -- its pixel is inside the picture
  column_below : column_of w g < w
  column_below = omega (arith, mod-lt (g / 48) {m = groups_across w} (omega arith))

  row_below : row_of w g < h
  row_below = omega (arith, row_before (groups_across w) (groups_across h) (g / 48) (omega arith) (omega arith))

  -- and it goes back to where it was
  pub place-source : place_of w (source_of w h g) ≡ g
  unfolding source_of place_of
  place-source =
      let x = column_of w g in
      let y = row_of w g in
      let pixel : ((y * w + x) * 3 + g % 3) / 3 ≡ y * w + x = omega arith in
      let channel : ((y * w + x) * 3 + g % 3) % 3 ≡ g % 3 = omega arith in
      rw (
        channel-inside w h x y (g % 3) column_below row_below,
        pixel,
        channel,
        its_column w x y column_below,
        its_row w x y column_below,
      )
      (grouped_again w g)

-- a byte of the first row of groups stands where it stands in the first four rows
pub source_first : (w h g : ℕ) → g < 48 * groups_across w → source_of w (4 + h) g ≡ source_of w 4 g
unfolding source_of
source_first w h g l =
    let y : inside (4 + h) (g / 12 % 4) ≡ inside 4 (g / 12 % 4) = omega arith in
    rw (band_row w g l, y)

-- a byte of the other groups stands in the other rows
pub source-later : (w h g : ℕ) → 0 < w → 0 < h → source_of w (4 + h) (48 * groups_across w + g) ≡ w * 4 * 3 + source_of w h g
unfolding source_of
source-later w h g hw hh =
    let a = groups_across w in
    rw (
      later_group a g,
      later-row a g,
      later_column a g,
      later-channel a g,
      add-mod_left a (g / 48),
      add-div_left (g / 48) {k = a} (omega arith),
      inside-later h (g / 48 / a) (g / 12 % 4) hh,
      add-mul 4 (inside h (row_of w g)) w,
    )
    (channel-later w (inside h (row_of w g) * w) (inside w (column_of w g)) (g % 3))

-- a byte of the rows after the first four stands after the first row of groups
pub place-later : (w j : ℕ) → 0 < w → place_of w (w * 4 * 3 + j) ≡ 48 * groups_across w + place_of w j
unfolding place_of
place-later w j hw =
    let y = j / 3 / w in
    let pixel : (w * 4 * 3 + j) / 3 ≡ w * 4 + j / 3 = omega arith in
    let channel : (w * 4 * 3 + j) % 3 ≡ j % 3 = omega arith in
    let group : (4 + y) / 4 ≡ 1 + y / 4 = omega arith in
    let row : (4 + y) % 4 ≡ y % 4 = omega arith in
    rw (
      pixel,
      channel,
      mul-add-mod_self_left w 4 (j / 3),
      mul-add-div hw 4 (j / 3),
      group,
      row,
      add-mul 1 (y / 4) (groups_across w),
    )
    (omega arith)
