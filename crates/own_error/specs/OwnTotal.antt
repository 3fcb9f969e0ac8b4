-- The error of a picture over its own pixels: that of each pixel, counted once.
use Rattle.std.specs.Prelude.{ℕ, zero, suc, ◌+◌, ◌-◌, ◌*◌, ◌%◌, ◌≤◌, ◌<◌, min, ◌≡◌, List, map, get_or, length, take, drop}
use Rattle.lists.specs.Rows.{up_from, sum}
use Rattle.groups.specs.Cutting.{groups_across, groups_of, picture_of}
use Rattle.figures.specs.Row.{errors_of, shown_of, read_row_of}
use Rattle.own_error.specs.Own.{own_row_of}

-- the sum over n rows of blocks, one after the other, of a figure of a row: a figure of how many rows of pixels it has, its groups and its
-- blocks
unfoldable pub over_rows : (ℕ → List ℕ → List ℕ → ℕ) → ℕ → ℕ → ℕ → List ℕ → List ℕ → ℕ
over_rows figure zero w h photo blocks = 0
over_rows figure (suc n) w h photo blocks =
    figure (min 4 h) (groups_of w (min 4 h) (take (w * min 4 h * 3) photo)) (take (16 * groups_across w) blocks)
    + over_rows figure n w (h - 4) (drop (w * min 4 h * 3) photo) (drop (16 * groups_across w) blocks)

-- the error over the picture's own pixels in n rows of blocks
abbrev pub own_rows : ℕ → ℕ → ℕ → List ℕ → List ℕ → ℕ
own_rows n w =
    over_rows
    (λ (rows : ℕ) (groups blocks : List ℕ). own_row_of w rows groups blocks (errors_of groups blocks (groups_across w)))
    n
    w

-- the sum of the blocks' errors in n rows of blocks
abbrev pub block_rows : ℕ → ℕ → ℕ → List ℕ → List ℕ → ℕ
block_rows n w = over_rows (λ (rows : ℕ) (groups blocks : List ℕ). sum (errors_of groups blocks (groups_across w))) n w

-- the squared difference of byte j of two pictures: one of the two terms is 0, as a number less a greater one is 0
abbrev pub byte_apart : List ℕ → List ℕ → ℕ → ℕ
byte_apart a b j =
    (get_or a j 0 - get_or b j 0) * (get_or a j 0 - get_or b j 0) + (get_or b j 0 - get_or a j 0) * (get_or b j 0 - get_or a j 0)

-- the sum of the squared differences of the first n pixels of two pictures, in red, green and blue
abbrev pub pictures_apart : ℕ → List ℕ → List ℕ → ℕ
pictures_apart n a b =
    sum (map (λ (p : ℕ). byte_apart a b (p * 3) + byte_apart a b (p * 3 + 1) + byte_apart a b (p * 3 + 2)) (up_from 0 n))

-- the error over a picture's own pixels is the distance of each of them, counted once, from the picture that the blocks show, where every
-- block is read
abbrev pub EachPixelOnce : Type 0
EachPixelOnce =
    (w h : ℕ) (photo blocks into : List ℕ) →
    let n : ℕ = groups_across w * groups_across h in
    0 < w →
    0 < h →
    length photo ≡ w * h * 3 →
    length blocks ≡ 16 * n →
    length into ≡ 48 * n →
    read_row_of blocks into n ≡ record { refusal = 0; at = n } →
    own_rows (groups_across h) w h photo blocks ≡ pictures_apart (w * h) photo (picture_of w h (shown_of blocks into n))

-- the error over a picture's own pixels is the distance of each of them, counted once, from the picture that the blocks show, where a
-- block that is declined shows its group of the picture
abbrev pub EachPixelRead : Type 0
EachPixelRead =
    (w h : ℕ) (photo blocks : List ℕ) →
    let n : ℕ = groups_across w * groups_across h in
    0 < w →
    0 < h →
    length photo ≡ w * h * 3 →
    length blocks ≡ 16 * n →
    own_rows (groups_across h) w h photo blocks
    ≡ pictures_apart (w * h) photo (picture_of w h (shown_of blocks (groups_of w h photo) n))

-- the error over a picture's own pixels is never more than the sum of the blocks' errors
abbrev pub NoMore : Type 0
NoMore = (n w h : ℕ) (photo blocks : List ℕ) → own_rows n w h photo blocks ≤ block_rows n w h photo blocks

-- the error over a picture's own pixels is the sum of the blocks' errors where both sides are multiples of 4
abbrev pub SameByFours : Type 0
SameByFours =
    (w h : ℕ) (photo blocks : List ℕ) →
    w % 4 ≡ 0 →
    h % 4 ≡ 0 →
    own_rows (groups_across h) w h photo blocks ≡ block_rows (groups_across h) w h photo blocks

-- the blocks' errors summed row by row are the sum of the errors of all blocks of the picture
abbrev pub AllErrors : Type 0
AllErrors =
    (w h : ℕ) (photo blocks : List ℕ) →
    let n : ℕ = groups_across w * groups_across h in
    0 < w →
    0 < h →
    length photo ≡ w * h * 3 →
    length blocks ≡ 16 * n →
    block_rows (groups_across h) w h photo blocks ≡ sum (errors_of (groups_of w h photo) blocks n)
