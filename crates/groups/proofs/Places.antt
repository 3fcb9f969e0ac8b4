-- Pixels stand at their places among a picture's groups, and in the picture that groups stand for.
use Prim.Native.Nat.{ℕ, ◌+◌, ◌*◌, ◌/◌, ◌%◌}
use native.Mathlib.Nat.{mul_comm}
use native.Mathlib.Omega.{arith}
use mathlib.Core.Path.{◌≡◌, ◌∙◌}
use lib.ListN.{get_or, length-map}
use Rattle.lists.proofs.Rows.{get_or-each, length-up_from}
use Rattle.groups.specs.Cutting.{groups_across, grouped_at, source_of, place_of, groups_of, picture_of}
use Rattle.groups.specs.Places.{CutAt, CutLength, PutAt, PutLength}
use Rattle.groups.proofs.Grid.{its_row, its_column, before-row, grouped_column, grouped_row, grouped_channel, grouped_below}

-- the bytes of groups
pub cut-length : CutLength
unfolding groups_of
cut-length w h picture = simp (length-map, length-up_from)

-- the bytes of a picture
pub put-length : PutLength
unfolding picture_of
put-length w h groups = simp (length-map, length-up_from)

-- a channel among the groups
pub cut_at : CutAt
unfolding groups_of source_of
cut_at w h picture x y k hx hy hk =
    get_or-each 0 (λ (g : ℕ). get_or picture (source_of w h g) 0) (48 * (groups_across w * groups_across h)) (grouped_at w x y k)
    (grouped_below w x y k hx hk h hy)
    ∙ rw (grouped_column w x y k hx hk, grouped_row w x y k hx hk, grouped_channel w x y k hx hk)

-- a channel of the picture
pub put-at : PutAt
unfolding picture_of place_of
put-at w h groups x y k hx hy hk =
    let pixel : ((y * w + x) * 3 + k) / 3 ≡ y * w + x = omega arith in
    let channel : ((y * w + x) * 3 + k) % 3 ≡ k = omega arith in
    get_or-each 0 (λ (j : ℕ). get_or groups (place_of w j) 0) (w * h * 3) ((y * w + x) * 3 + k)
    (omega (arith, before-row w x y hx h hy, mul_comm w h))
    ∙ rw (pixel, channel, its_column w x y hx, its_row w x y hx)
