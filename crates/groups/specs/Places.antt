-- Where each pixel stands, in plain numbers: its column x, its row y, and its channel k, which is red, green or blue.
use Rattle.std.specs.Prelude.{ℕ, ◌+◌, ◌-◌, ◌*◌, ◌/◌, ◌%◌, ◌<◌, min, ◌≡◌, List, length, get_or}
use Rattle.groups.specs.Cutting.{groups_of, picture_of}

-- groups go row by row and so do the pixels of each; beyond the picture's edges its last column and its last row are repeated
abbrev pub CutAt : Type 0
CutAt =
    (w h : ℕ) (picture : List ℕ) (x y k : ℕ) →
    x < 4 * ((w + 3) / 4) →
    y < 4 * ((h + 3) / 4) →
    k < 3 →
    get_or (groups_of w h picture) (48 * (y / 4 * ((w + 3) / 4) + x / 4) + (y % 4 * 4 + x % 4) * 3 + k) 0
    ≡ get_or picture ((min y (h - 1) * w + min x (w - 1)) * 3 + k) 0

-- 48 bytes for each group
abbrev pub CutLength : Type 0
CutLength = (w h : ℕ) (picture : List ℕ) → length (groups_of w h picture) ≡ 48 * ((w + 3) / 4 * ((h + 3) / 4))

-- a pixel of the picture that groups stand for is the one at its place in its group
abbrev pub PutAt : Type 0
PutAt =
    (w h : ℕ) (groups : List ℕ) (x y k : ℕ) →
    x < w →
    y < h →
    k < 3 →
    get_or (picture_of w h groups) ((y * w + x) * 3 + k) 0
    ≡ get_or groups (48 * (y / 4 * ((w + 3) / 4) + x / 4) + (y % 4 * 4 + x % 4) * 3 + k) 0

-- 3 bytes for each pixel
abbrev pub PutLength : Type 0
PutLength = (w h : ℕ) (groups : List ℕ) → length (picture_of w h groups) ≡ w * h * 3
