-- Cutting and putting back undo each other, and go band by band.
use Prim.Native.Nat.{◌+◌, ◌*◌}
use native.Mathlib.Nat.{add-mul, mul-add, mul-one}
use native.Mathlib.Omega.{arith}
use mathlib.Core.Path.{◌≡◌, refl}
use Rattle.groups.specs.Cutting.{groups_across, source_of, place_of, groups_of, picture_of}
use Rattle.groups.specs.Inverse.{PutBack, CutAgain, ByBands, BackByBands}
use Rattle.groups.proofs.Gathering.{gathered_back, gathered_add}
use Rattle.groups.proofs.Standing.{place-below, source-place, source-below, place-source, source_first, source-later, place-later}

-- a picture comes back from its groups
pub put_back_cut : PutBack
unfolding groups_of picture_of
put_back_cut w h picture hw hh l =
    gathered_back (source_of w h) (place_of w) (w * h * 3) (48 * (groups_across w * groups_across h)) picture l
    (λ j b. (place-below w h j hw b, source-place w h j hw b))

-- groups come back from their picture
pub cut-put_back : CutAgain
unfolding groups_of picture_of
cut-put_back w h groups hw hh ew eh l =
    gathered_back (place_of w) (source_of w h) (48 * (groups_across w * groups_across h)) (w * h * 3) groups l
    (λ g b. (source-below w h g hw hh, place-source w h g hw ew eh b))

-- four rows are cut by themselves
pub cut_by_bands : ByBands
unfolding groups_of
cut_by_bands w h band rest hw hh l =
    let a = groups_across w in
    let b = groups_across h in
    let more : groups_across (4 + h) ≡ 1 + b = omega arith in
    let both : 48 * (a * groups_across (4 + h)) ≡ 48 * (a * 1) + 48 * (a * b) = rw (more, mul-add a 1 b) (omega arith) in
    rw both
    (gathered_add (source_of w (4 + h)) (source_of w 4) (source_of w h) (48 * (a * 1)) (48 * (a * b)) (w * 4 * 3) band rest l
    (λ g i. (source_first w h g (omega arith), source-below w 4 g hw (omega arith)))
    (λ g. rw mul-one (source-later w h g hw hh)))

-- a row of groups is put back by itself
pub put_back_by_bands : BackByBands
unfolding picture_of
put_back_by_bands w h groups rest hw hh l =
    rw (mul-add w 4 h, add-mul (w * 4) (w * h) 3)
    (gathered_add (place_of w) (place_of w) (place_of w) (w * 4 * 3) (w * h * 3) (48 * groups_across w) groups rest l
    (λ j i. (refl, rw mul-one at (place-below w 4 j hw i)))
    (λ j. place-later w j hw))
