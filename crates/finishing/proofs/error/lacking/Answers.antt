-- `finishing::error::lacking` meets its contract. The invariant: the sum over the first bytes.
use borrow.Author.Rules.{rules}
use native.Mathlib.Omega.{arith}
use Prim.Native.Nat.{ℕ, ◌+◌, ◌*◌}
use mathlib.Core.Path.{◌≡◌, sym, ap, ap₂, ◌∙◌}
use Rattle.lists.proofs.Sums.{sum_to-suc}
use Rattle.bptc.proofs.ColourBounds.{square_byte}
use Rattle.finishing.proofs.Lacking.{lacking-raised}
use Rattle.finishing.proofs.error.lacking.Goals as goal

pub loop-x-preserved : goal.loop-x-preserved
loop-x-preserved c =
    let at = c.loop-x in (
      ap₂ ◌+◌ at.invariant.0 (ap (λ (n : ℕ). n * n) c.from-y.ensures) ∙ sym (sum_to-suc _ at.x-index),
      omega (arith, square_byte c.from-y.result (omega arith)),
    )

pub returns : goal.returns
returns c =
    let at = c.loop-x in
    let e : at.x-index ≡ 48 = omega arith in
    let whole = rw (← rw e at at.invariant.0) at (lacking-raised c.args.px.now (λ i h. c.fits-px i) (search rules)) in
    (whole, omega arith)
