-- `closest::indexes::word` meets its contract. The invariant: the last i indices of each half are joined.
use native.Mathlib.Omega.{arith}
use Prim.Native.Nat.{ℕ, ◌+◌, ◌-◌, ◌*◌, ◌%◌, ◌^◌, ◌<◌}
use native.Mathlib.Nat.{mul_comm, mod-eq_of_lt}
use mathlib.Core.Path.{◌≡◌, refl, ap, ap₂, ◌∙◌}
use lib.Pow.{pow_pos}
use Rattle.lists.specs.Bits.{join}
use Rattle.closest.proofs.Joining.{joined-next, power_is, digit_next, halves_room, joined-halves}
use Rattle.closest.proofs.indexes.word.Goals.{After-loop-i, In-loop-i}
use Rattle.closest.proofs.indexes.word.Invariants.{index}
use Rattle.closest.proofs.indexes.word.Goals as goal

-- the factor of a digit
size : (c : In-loop-i) → 1 * 2 ^ c.args.bits % 2 ^ 32 ≡ 2 ^ c.args.bits
size c = power_is c.args.bits (omega arith)

-- one digit more fits
next : (c : In-loop-i) (n x : ℕ) → n < 2 ^ (c.args.bits * c.loop-i.i) →
    (n * (1 * 2 ^ c.args.bits % 2 ^ 32) + x % (1 * 2 ^ c.args.bits % 2 ^ 32) < 2 ^ (c.args.bits * (c.loop-i.i + 1)))
    × (n * (1 * 2 ^ c.args.bits % 2 ^ 32) + x % (1 * 2 ^ c.args.bits % 2 ^ 32) < 2 ^ 32)
next c n x h = rw (size c) (digit_next c.args.bits c.loop-i.i n x (omega arith) (omega arith) h)

-- after the loop there is room for both halves
both : (c : After-loop-i) →
    (c.loop-i.lo < 2 ^ 32) × (c.loop-i.hi < 2 ^ 32) × (c.loop-i.hi * 2 ^ (8 * c.args.bits) < 2 ^ 64)
    × (c.loop-i.lo + c.loop-i.hi * 2 ^ (8 * c.args.bits) < 2 ^ 64)
both c =
    let at = c.loop-i in
    let e : at.i ≡ 8 = omega arith in
    halves_room c.args.bits at.lo at.hi (omega arith) (rw e at at.invariant.0.1) (rw e at at.invariant.1.1)

pub loop-i-init : goal.loop-i-init
unfolding join
loop-i-init c = ((refl, pow_pos _), (refl, pow_pos _))

pub overflow_mul-lo : goal.overflow_mul-lo
overflow_mul-lo c = record { fits = omega (arith, (next (goal.at.overflow_mul-lo c).In-loop-i c.loop-i.lo 0 c.loop-i.invariant.0.1).1) }

pub overflow_add-lo : goal.overflow_add-lo
overflow_add-lo c = record { fits = (next (goal.at.overflow_add-lo c).In-loop-i c.loop-i.lo _ c.loop-i.invariant.0.1).1 }

pub overflow_mul-hi : goal.overflow_mul-hi
overflow_mul-hi c = record { fits = omega (arith, (next (goal.at.overflow_mul-hi c).In-loop-i c.loop-i.hi 0 c.loop-i.invariant.1.1).1) }

pub overflow_add-hi : goal.overflow_add-hi
overflow_add-hi c = record { fits = (next (goal.at.overflow_add-hi c).In-loop-i c.loop-i.hi _ c.loop-i.invariant.1.1).1 }

pub loop-i-preserved : goal.loop-i-preserved
loop-i-preserved c =
    let at = c.loop-i in
    let a = c.args in
    let digit = index a.bits a.best.now in
    let e = size (goal.at.loop-i-preserved c).In-loop-i in (
      (
        rw e (ap (λ (n : ℕ). n * 2 ^ a.bits + digit (7 - at.i)) at.invariant.0.0 ∙ joined-next a.bits digit 8 at.i (omega arith)),
        (next (goal.at.loop-i-preserved c).In-loop-i at.lo _ at.invariant.0.1).0,
      ),
      (
        rw e (ap (λ (n : ℕ). n * 2 ^ a.bits + digit (15 - at.i)) at.invariant.1.0 ∙ joined-next a.bits digit 16 at.i (omega arith)),
        (next (goal.at.loop-i-preserved c).In-loop-i at.hi _ at.invariant.1.1).0,
      ),
    )

pub overflow_add-result : goal.overflow_add-result
overflow_add-result c = record { fits = rw (c.from.ensures, c.from-2.ensures, mod-eq_of_lt (both (goal.at.overflow_add-result c).After-loop-i).2) (both (goal.at.overflow_add-result c).After-loop-i).3 }

pub returns : goal.returns
returns c =
    let at = c.loop-i in
    let a = c.args in
    let e : at.i ≡ 8 = omega arith in
    rw (c.from.ensures, c.from-2.ensures, mod-eq_of_lt (both (goal.at.returns c).After-loop-i).2, mul_comm 8 a.bits)
    (ap₂ (λ (x y : ℕ). x + y * 2 ^ (a.bits * 8)) (rw e at at.invariant.0.0) (rw e at at.invariant.1.0) ∙ joined-halves a.bits (index a.bits a.best.now))
