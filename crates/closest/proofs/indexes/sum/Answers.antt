-- `closest::indexes::sum` meets its contract. The invariant: the sum over the pixels so far.
use native.Mathlib.Omega.{arith}
use Prim.Native.Nat.{ℕ, ◌+◌, ◌/◌}
use mathlib.Core.Path.{◌≡◌, sym, ap, ◌∙◌}
use lib.ListN.{get_or}
use Rattle.lists.specs.Rows.{over_pixels}
use Rattle.lists.proofs.Sums.{sum_to-suc}
use Rattle.closest.proofs.indexes.sum.Goals as goal

pub loop-key-preserved : goal.loop-key-preserved
loop-key-preserved c =
    let at = c.loop-key in
    let best = c.args.best.now in
    (ap (λ (n : ℕ). n + get_or best at.key-index 0 / 8) at.invariant.0 ∙ sym (sum_to-suc _ at.key-index), omega (arith, c.requires at.key-index))

pub returns : goal.returns
unfolding over_pixels
returns c =
    let at = c.loop-key in
    let e : at.key-index ≡ 16 = omega arith in
    rw e at at.invariant.0
