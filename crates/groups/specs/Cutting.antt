-- A picture cut into groups of 4 by 4 pixels, and groups put back: pixels row by row, and of each red, green, blue.
use Rattle.std.specs.Prelude.{ℕ, ◌+◌, ◌-◌, ◌*◌, ◌/◌, ◌%◌, min, List, map, get_or}
use Rattle.lists.specs.Rows.{up_from}

-- how many groups a side has
abbrev pub groups_across : ℕ → ℕ
groups_across n = (n + 3) / 4

-- how many rows of pixels a row of groups has: four, or those that are left
abbrev pub rows_in : ℕ → ℕ → ℕ
rows_in height row = min 4 (height - 4 * row)

-- a place along a side, or the last one where it is beyond the edge
abbrev pub inside : ℕ → ℕ → ℕ
inside n i = min i (n - 1)

-- where channel k of the pixel in column x, row y stands in a picture: the last column and the last row are repeated
abbrev pub channel_at : ℕ → ℕ → ℕ → ℕ → ℕ → ℕ
channel_at w h x y k = (inside h y * w + inside w x) * 3 + k

-- where it stands among the bytes of the picture's groups, which go row by row
abbrev pub grouped_at : ℕ → ℕ → ℕ → ℕ → ℕ
grouped_at w x y k = 48 * (y / 4 * groups_across w + x / 4) + (y % 4 * 4 + x % 4) * 3 + k

-- the column of the pixel that byte g of the groups is of
abbrev pub column_of : ℕ → ℕ → ℕ
column_of w g = 4 * (g / 48 % groups_across w) + g / 3 % 4

-- its row
abbrev pub row_of : ℕ → ℕ → ℕ
row_of w g = 4 * (g / 48 / groups_across w) + g / 12 % 4

-- where byte g of the groups stands in the picture
unfoldable pub source_of : ℕ → ℕ → ℕ → ℕ
source_of w h g = channel_at w h (column_of w g) (row_of w g) (g % 3)

-- where byte j of a picture stands among its groups' bytes
unfoldable pub place_of : ℕ → ℕ → ℕ
place_of w j = grouped_at w (j / 3 % w) (j / 3 / w) (j % 3)

-- what stands in a list at each of n places
abbrev pub gather : (ℕ → ℕ) → ℕ → List ℕ → List ℕ
gather place n xs = map (λ (i : ℕ). get_or xs (place i) 0) (up_from 0 n)

-- the groups of a picture
unfoldable pub groups_of : ℕ → ℕ → List ℕ → List ℕ
groups_of w h = gather (source_of w h) (48 * (groups_across w * groups_across h))

-- the picture that groups stand for
unfoldable pub picture_of : ℕ → ℕ → List ℕ → List ℕ
picture_of w h = gather (place_of w) (w * h * 3)
