-- Cutting and putting back undo each other, and go band by band.
use Rattle.std.specs.Prelude.{ℕ, ◌+◌, ◌*◌, ◌%◌, ◌<◌, ◌≡◌, List, ◌++◌, length}
use Rattle.groups.specs.Cutting.{groups_across, groups_of, picture_of}

-- a picture of any size is what its groups stand for
abbrev pub PutBack : Type 0
PutBack =
    (w h : ℕ) (picture : List ℕ) →
    0 < w →
    0 < h →
    length picture ≡ w * h * 3 →
    picture_of w h (groups_of w h picture) ≡ picture

-- groups are those of the picture that they stand for, where its sides are multiples of 4
abbrev pub CutAgain : Type 0
CutAgain =
    (w h : ℕ) (groups : List ℕ) →
    0 < w →
    0 < h →
    w % 4 ≡ 0 →
    h % 4 ≡ 0 →
    length groups ≡ 48 * (groups_across w * groups_across h) →
    groups_of w h (picture_of w h groups) ≡ groups

-- the groups of a picture are those of its first four rows, and then those of the rest
abbrev pub ByBands : Type 0
ByBands =
    (w h : ℕ) (band rest : List ℕ) →
    0 < w →
    0 < h →
    length band ≡ w * 4 * 3 →
    groups_of w (4 + h) (band ++ rest) ≡ groups_of w 4 band ++ groups_of w h rest

-- the picture of groups is that of the first row of them, and then that of the others
abbrev pub BackByBands : Type 0
BackByBands =
    (w h : ℕ) (groups rest : List ℕ) →
    0 < w →
    0 < h →
    length groups ≡ 48 * groups_across w →
    picture_of w (4 + h) (groups ++ rest) ≡ picture_of w 4 groups ++ picture_of w h rest
