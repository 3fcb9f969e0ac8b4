-- `closest::indexes::summed` meets its contract. The invariant: the sums over the first i pixels.
use native.Mathlib.Omega.{arith}
use mathlib.Core.Path.{◌≡◌, sym, ap, ap₂, ◌∙◌}
use lib.Dec.{eqb}
use lib.ListN.{get_or}
use Rattle.lists.specs.Tests.{pick}
use Rattle.lists.specs.Rows.{over_pixels}
use Rattle.lists.specs.Digits.{bit}
use Rattle.lists.proofs.Sums.{sum_to-suc}
use Prim.Native.Nat.{ℕ, zero, suc, ◌+◌, ◌*◌, ◌/◌, ◌^◌, ◌<◌}
use lib.Bits.{bit_and}
use lib.Pow.{pow_pos}
use borrow.Author.Tests.{eq-eqb, ne_eqb}
use Rattle.lists.proofs.Digits.{and-bit}
use Rattle.closest.proofs.Places.{places, place}
use Rattle.closest.proofs.indexes.summed.Goals as goal

-- a bit of the mask at its place, tested
placed : (mask i n : ℕ) → i < 16 → pick (eqb (bit_and mask (get_or places i 0)) 0) 0 n ≡ pick (eqb (bit mask i) 1) n 0
placed mask i n h = rw (place i h, and-bit mask i) (go (bit mask i) (2 ^ i) (omega arith) (pow_pos i))
  where
    go : (b q : ℕ) → b < 2 → 0 < q → pick (eqb (b * q) 0) 0 n ≡ pick (eqb b 1) n 0
    go zero q l k = rw (eq-eqb (0 * q) 0 (omega arith))
    go (suc zero) q l k = rw (ne_eqb (1 * q) 0 (λ e. omega arith))
    go (suc (suc b)) q l k = absurd (omega arith)

pub loop-i-preserved : goal.loop-i-preserved
loop-i-preserved c =
    let at = c.loop-i in
    let best = c.args.best.now in
    let own : c.marked-second.result ≡ pick (eqb (bit c.args.mask at.i) 1) (get_or best at.i 0 / 8) 0 =
    c.marked-second.ensures.0 ∙ placed c.args.mask at.i (get_or best at.i 0 / 8) (omega arith) in (
      ap (λ (n : ℕ). n + get_or best at.i 0 / 8) at.invariant.0 ∙ sym (sum_to-suc _ at.i),
      ap₂ ◌+◌ at.invariant.1 own ∙ sym (sum_to-suc _ at.i),
      (omega (arith, c.requires at.i), omega (arith, c.requires at.i, c.marked-second.ensures.1)),
    )

pub returns : goal.returns
unfolding over_pixels
returns c =
    let at = c.loop-i in
    let e : at.i ≡ 16 = omega arith in
    (record { all = rw e at at.invariant.0; second = rw e at at.invariant.1 })
