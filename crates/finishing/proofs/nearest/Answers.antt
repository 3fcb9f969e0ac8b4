-- `finishing::nearest` meets its contract: what the pixels are raised by is taken away.
use native.Mathlib.Omega.{arith}
use Prim.Native.Nat.{ℕ, ◌+◌, ◌-◌, ◌≤◌}
use mathlib.Core.Path.{◌≡◌, ap}
use mathlib.Core.List.{List}
use Rattle.lists.specs.Bytes.{Bytes}
use Rattle.bptc.specs.declared.Rgb.{Rgb}
use Rattle.bptc.specs.Mode.{Mode, IsMode}
use Rattle.bptc.specs.Internal.Shown.{Stored}
use Rattle.bptc.specs.Internal.Colour.{colours_of}
use Rattle.bptc.specs.Internal.Closest.{closest_in}
use Rattle.bptc_block.specs.declared.PBits.{PBits}
use Rattle.closest.specs.declared.pick.Picked.{Picked}
use Rattle.closest.specs.Pick.{bias_all, bits_for, picked_at, picked_for}
use Rattle.finishing.specs.Indices.{nearest_at}
use Rattle.finishing.proofs.Kept.{sum_small}
use Rattle.finishing.proofs.nearest.Goals as goal

module _ (m : Mode) (part : ℕ) (ends : List Rgb) (p : PBits) (px : List ℕ) (got : Picked) (is : got ≡ picked_for m part ends p px) where
  -- the error of subset s
  abbrev error_of : ℕ → ℕ
  error_of s = (closest_in m part ends (bits_for m part ends p px) s (colours_of px)).error

  -- what is got is the errors and what the pixels are raised by
  sum_is : got.sum ≡ error_of 0 + error_of 1 + bias_all (colours_of px)
  unfolding picked_at
  sum_is = ap (λ (r : Picked). r.sum) is

  -- and no more than this
  sum_most : IsMode m → Stored m ends → Bytes px → got.sum ≤ 6242400
  sum_most known stored bytes = rw is (sum_small m known part ends px (bits_for m part ends p px) stored bytes)

pub overflow_add-result : goal.overflow_add-result
overflow_add-result g c =
    let p = c.args.p in
    let q = c.args.query.now in
    omega (arith, sum_most g.M.Mode.mode q.partition.number q.ends.stored p q.pixels.now c.picked-got.result c.picked-got.ensures g.M.Mode.is_mode q.ends.within q.bytes, c.lacking.ensures)

pub overflow_sub-result : goal.overflow_sub-result
overflow_sub-result g c =
    let p = c.args.p in
    let q = c.args.query.now in
    omega (arith, sum_is g.M.Mode.mode q.partition.number q.ends.stored p q.pixels.now c.picked-got.result c.picked-got.ensures, c.lacking.ensures)

pub returns : goal.returns
unfolding nearest_at picked_at
returns g c =
    let p = c.args.p in
    let q = c.args.query.now in
    let m = g.M.Mode.mode in
    let is = c.picked-got.ensures in
    let error_at = error_of m q.partition.number q.ends.stored p q.pixels.now c.picked-got.result is in
    let error : c.picked-got.result.sum + c.lacking.result - 3121200 ≡ error_at 0 + error_at 1 =
    omega (arith, sum_is m q.partition.number q.ends.stored p q.pixels.now c.picked-got.result is, c.lacking.ensures.0) in
    λ t. record {
      indexes = ap (λ (p : Picked). p.indexes) is t;
      error = error t;
      p = ap (λ (p : Picked). p.p) is t;
    }
