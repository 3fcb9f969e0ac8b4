-- `choice_columns::sums::column_sums` meets its contract. The invariant: the sums and words over the pixels from i on.
use Rattle.std.proofs.Common.{◌≡◌, ℕ, ◌+◌, ◌-◌, ◌*◌, ◌^◌, ◌<◌, ◌≤◌, Bool, true, false, eqb, refl, le_trans, arith}
use lib.Bits.{bit_and, and_le_l}
use Rattle.lists.specs.Tests.{pick}
use Rattle.lists.specs.Rows.{over_pixels}
use Rattle.lists.specs.Digits.{bit}
use Rattle.lists.specs.Bits.{join}
use Rattle.keys.proofs.KeySums.{small_each}
use Rattle.closest.proofs.Joining.{joined_from}
use Rattle.choice_columns.proofs.FourSums.{sum_from, sum_down, join_down, sum_most, joined_room, and_ones, four-next, four_below}
use Rattle.choice_columns.proofs.sums.column_sums.Invariants.{apart, index, of_second}
use Rattle.choice_columns.proofs.sums.column_sums.Goals as goal

-- a figure or 0 is at most the figure
pick_le : (t : Bool) (x : ℕ) → pick t x 0 ≤ x
pick_le true x = omega arith
pick_le false x = omega arith

pub loop-i-init : goal.loop-i-init
unfolding join
loop-i-init c = (refl, refl, refl)

pub grown-more-requires : goal.grown-more-requires
grown-more-requires c =
    let at = c.loop-i in
    let i = at.i in
    let columns = c.args.columns.now in
    let small : (q i : ℕ) → apart columns q i < 2 ^ 31 = λ q i. omega (arith, c.requires q i) in
    λ k.
    rw at.invariant.0
    (omega (
      arith,
      small_each (λ (q : ℕ). sum_from (apart columns q) i) 4 (2 ^ 31) (omega arith)
          (λ q h. omega (arith, sum_most (apart columns q) (2 ^ 20) (16 - i) i (λ i. omega (arith, c.requires q i)))) k,
      four_below (small 0 (i - 1)) (small 1 (i - 1)) (small 2 (i - 1)) (small 3 (i - 1)) k,
    ))

pub grown-other-requires : goal.grown-other-requires
grown-other-requires c =
    let at = c.loop-i in
    let i = at.i in
    let columns = c.args.columns.now in
    let mask = c.args.mask in
    let most : (q i : ℕ) → of_second columns mask q i ≤ 2 ^ 20 = λ q i. le_trans (pick_le (eqb (bit mask i) 1) (apart columns q i)) (omega (arith, c.requires q i)) in
    let small : (q i s : ℕ) → bit_and (apart columns q i) s < 2 ^ 31 = λ q i s. omega (arith, c.requires q i, and_le_l (apart columns q i) s) in
    let s = c.all_ones-s.result in
    λ k.
    rw at.invariant.1
    (omega (
      arith,
      small_each (λ (q : ℕ). sum_from (of_second columns mask q) i) 4 (2 ^ 31) (omega arith)
          (λ q h. omega (arith, sum_most (of_second columns mask q) (2 ^ 20) (16 - i) i (most q))) k,
      four_below (small 0 (i - 1) s) (small 1 (i - 1) s) (small 2 (i - 1) s) (small 3 (i - 1) s) k,
    ))

pub grown-longer-requires : goal.grown-longer-requires
grown-longer-requires c =
    let at = c.loop-i in
    let i = at.i in
    let columns = c.args.columns.now in
    let some : 0 < i = omega arith in
    let small : (q : ℕ) → index columns q (i - 1) < 4 = λ q. omega arith in
    λ k.
    rw at.invariant.2
    (omega (
      arith,
      small_each (λ (c : ℕ). joined_from 2 (index columns c) i (16 - i)) 4 (2 ^ 30) (omega arith)
          (λ q h. joined_room (index columns q) (λ i. omega arith) i some (omega arith)) k,
      four_below (small 0) (small 1) (small 2) (small 3) k,
    ))

pub loop-i-preserved : goal.loop-i-preserved
loop-i-preserved c =
    let at = c.loop-i in
    let columns = c.args.columns.now in
    let mask = c.args.mask in
    let i = at.i in
    let some : 0 < i = omega arith in
    let ones = c.all_ones-s in
    let down : (q : ℕ) → sum_from (apart columns q) i * 1 + apart columns q (i - 1) ≡ sum_from (apart columns q) (i - 1) =
    λ q. (omega (arith, sum_down (apart columns q) i some (omega arith))) in
    let other : (q : ℕ) → sum_from (of_second columns mask q) i * 1 + bit_and (apart columns q (i - 1)) ones.result ≡ sum_from (of_second columns mask q) (i - 1) =
    λ q.
    rw (ones.ensures, and_ones (apart columns q (i - 1)) (bit mask (i - 1)) (omega (arith, c.requires q (i - 1))) (omega arith))
    (omega (arith, sum_down (of_second columns mask q) i some (omega arith))) in
    let longer : (q : ℕ) → joined_from 2 (index columns q) i (16 - i) * 4 + index columns q (i - 1) ≡ joined_from 2 (index columns q) (i - 1) (16 - (i - 1)) =
    λ q. (join_down (index columns q) i some (omega arith)) in (
      four-next (λ (c : ℕ). sum_from (apart columns c) i) (λ (c : ℕ). sum_from (apart columns c) (i - 1)) (λ (x y : ℕ). x * 1 + y) _ _ _ _ _ _ at.invariant.0 c.grown-more.ensures
          (down 0) (down 1) (down 2) (down 3),
      four-next (λ (c : ℕ). sum_from (of_second columns mask c) i) (λ (c : ℕ). sum_from (of_second columns mask c) (i - 1)) (λ (x y : ℕ). x * 1 + y) _ _ _ _ _ _ at.invariant.1 c.grown-other.ensures
          (other 0) (other 1) (other 2) (other 3),
      four-next (λ (c : ℕ). joined_from 2 (index columns c) i (16 - i)) (λ (c : ℕ). joined_from 2 (index columns c) (i - 1) (16 - (i - 1))) (λ (x y : ℕ). x * 4 + y) _ _ _ _ _ _ at.invariant.2 c.grown-longer.ensures
          (longer 0) (longer 1) (longer 2) (longer 3),
    )

pub returns : goal.returns
unfolding over_pixels
returns c =
    let at = c.loop-i in
    let e : at.i ≡ 0 = omega arith in
    (record { all = rw e at at.invariant.0; second = rw e at at.invariant.1; words = rw e at at.invariant.2 })
