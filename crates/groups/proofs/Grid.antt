-- Laws of places that are counted row by row, and of the bytes of groups.
use Prim.Native.Nat.{ℕ, ◌+◌, ◌*◌, ◌/◌, ◌%◌, ◌≤◌, ◌<◌}
use native.Mathlib.Nat.{add-zero, zero-add, zero-mul, add-mul, mul_comm, mul-le-mul, mul-le-mul_right, mul-add-div_right, mul-add-mod_self_right, div-eq_of_lt, mod-eq_of_lt, mod-lt, div-add-mod', div-lt_iff_lt-mul}
use native.Mathlib.Omega.{arith}
use mathlib.Core.Path.{◌≡◌, ap, ◌∙◌}
use Rattle.groups.specs.Cutting.{groups_across, inside, channel_at, grouped_at, column_of, row_of}

-- place x of row y, where a row has a places
module _ (a x y : ℕ) (h : x < a) where
  pub its_row : (y * a + x) / a ≡ y
  its_row = mul-add-div_right (omega arith) y x ∙ (ap (λ (n : ℕ). y + n) (div-eq_of_lt h) ∙ add-zero y)

  pub its_column : (y * a + x) % a ≡ x
  its_column = mul-add-mod_self_right y a x ∙ mod-eq_of_lt h

  -- it is before row b
  pub before-row : (b : ℕ) → y < b → y * a + x < b * a
  before-row b l = omega (arith, mul-le-mul_right {m = y + 1} {n = b} a (omega arith), add-mul y 1 a)

-- a place of b rows stands in one of them
pub row_before : (a b p : ℕ) → 0 < a → p < a * b → p / a < b
row_before a b p h l = (div-lt_iff_lt-mul h).1 (rw mul_comm at l)

-- the pixel of byte j stands inside the picture
pub pixel_inside : (w h j : ℕ) → 0 < w → j < w * h * 3 → (j / 3 % w < w) × (j / 3 / w < h)
pixel_inside w h j hw l = (mod-lt (j / 3) hw, row_before w h (j / 3) hw (omega arith))

-- a pixel inside the picture is not repeated from its edge
pub channel-inside : (w h x y k : ℕ) → x < w → y < h → channel_at w h x y k ≡ (y * w + x) * 3 + k
channel-inside w h x y k hx hy =
    let column : inside w x ≡ x = omega arith in
    let row : inside h y ≡ y = omega arith in
    rw (column, row)

-- a pixel of a band
pub in_band : {w rows x y : ℕ} → x < w → y < rows → w ≤ 16384 → rows ≤ 4 → (y * w + x < w * rows) × (w * rows ≤ 65536)
in_band {w} {rows} {x} {y} hx hy hw hr = (rw (mul_comm w rows) (before-row w x y hx rows hy), mul-le-mul hw hr)

-- channel k of the pixel in column b, row a of group q
module _ (q a b k : ℕ) (ha : a < 4) (hb : b < 4) (hk : k < 3) where
  byte_group : (48 * q + (a * 4 + b) * 3 + k) / 48 ≡ q
  byte_group = omega arith

  byte-row : (48 * q + (a * 4 + b) * 3 + k) / 12 % 4 ≡ a
  byte-row = omega arith

  byte_column : (48 * q + (a * 4 + b) * 3 + k) / 3 % 4 ≡ b
  byte_column = omega arith

  byte-channel : (48 * q + (a * 4 + b) * 3 + k) % 3 ≡ k
  byte-channel = omega arith

-- channel k of the pixel in column x, row y, among the groups' bytes
module _ (w x y k : ℕ) (hx : x < 4 * groups_across w) (hk : k < 3) where
  pub grouped_column : column_of w (grouped_at w x y k) ≡ x
  grouped_column =
      let q = y / 4 * groups_across w + x / 4 in
      rw (
        byte_group q (y % 4) (x % 4) k (omega arith) (omega arith) hk,
        its_column (groups_across w) (x / 4) (y / 4) (omega arith),
        byte_column q (y % 4) (x % 4) k (omega arith) (omega arith) hk,
      )
      (omega arith)

  pub grouped_row : row_of w (grouped_at w x y k) ≡ y
  grouped_row =
      let q = y / 4 * groups_across w + x / 4 in
      rw (
        byte_group q (y % 4) (x % 4) k (omega arith) (omega arith) hk,
        its_row (groups_across w) (x / 4) (y / 4) (omega arith),
        byte-row q (y % 4) (x % 4) k (omega arith) (omega arith) hk,
      )
      (omega arith)

  pub grouped_channel : grouped_at w x y k % 3 ≡ k
  grouped_channel = byte-channel (y / 4 * groups_across w + x / 4) (y % 4) (x % 4) k (omega arith) (omega arith) hk

  -- the groups of h rows of pixels have it
  pub grouped_below : (h : ℕ) → y < 4 * groups_across h → grouped_at w x y k < 48 * (groups_across w * groups_across h)
  grouped_below h l =
      let a = groups_across w in
      let b = groups_across h in
      omega (arith, before-row a (x / 4) (y / 4) (omega arith) b (omega arith), mul_comm a b)

-- byte g of the groups, by its pixel and its channel
pub grouped_again : (w g : ℕ) → grouped_at w (column_of w g) (row_of w g) (g % 3) ≡ g
grouped_again w g =
    let c = g / 48 % groups_across w in
    let r = g / 48 / groups_across w in
    let column : (4 * c + g / 3 % 4) / 4 ≡ c = omega arith in
    let row : (4 * r + g / 12 % 4) / 4 ≡ r = omega arith in
    let column-in : (4 * c + g / 3 % 4) % 4 ≡ g / 3 % 4 = omega arith in
    let row_in : (4 * r + g / 12 % 4) % 4 ≡ g / 12 % 4 = omega arith in
    rw (column, row, column-in, row_in, div-add-mod' (g / 48) (groups_across w)) (omega arith)

-- a band has one row of groups
module _ (w g : ℕ) (l : g < 48 * groups_across w) where
  pub band_column : column_of w g ≡ 4 * (g / 48) + g / 3 % 4
  band_column = ap (λ (c : ℕ). 4 * c + g / 3 % 4) (mod-eq_of_lt (omega arith))

  pub band_row : row_of w g ≡ g / 12 % 4
  band_row =
      let first : g / 48 / groups_across w ≡ 0 = div-eq_of_lt (omega arith) in
      omega arith

-- a pixel of a band, among the groups' bytes
pub band_grouped : (w x y k : ℕ) → y < 4 → grouped_at w x y k ≡ 48 * (x / 4) + (y * 4 + x % 4) * 3 + k
band_grouped w x y k l =
    let first : y / 4 ≡ 0 = omega arith in
    let own : y % 4 ≡ y = omega arith in
    rw (first, own, zero-mul, zero-add)

-- byte g of the groups that follow a others
module _ (a g : ℕ) where
  pub later_group : (48 * a + g) / 48 ≡ a + g / 48
  later_group = omega arith

  pub later-row : (48 * a + g) / 12 % 4 ≡ g / 12 % 4
  later-row = omega arith

  pub later_column : (48 * a + g) / 3 % 4 ≡ g / 3 % 4
  later_column = omega arith

  pub later-channel : (48 * a + g) % 3 ≡ g % 3
  later-channel = omega arith

-- a row of pixels below the first four
pub inside-later : (h r i : ℕ) → 0 < h → inside (4 + h) (4 * (r + 1) + i) ≡ 4 + inside h (4 * r + i)
inside-later h r i l = omega arith

-- a channel after those of four rows
pub channel-later : (w p x k : ℕ) → (4 * w + p + x) * 3 + k ≡ w * 4 * 3 + ((p + x) * 3 + k)
channel-later w p x k = omega arith
