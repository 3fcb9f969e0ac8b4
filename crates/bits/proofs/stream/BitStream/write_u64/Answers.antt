-- `bits::stream::BitStream::write_u64` meets its contract.
use Prim.Native.Nat.{ℕ, ◌+◌, ◌*◌, ◌%◌, ◌^◌, ◌≤◌, ◌<◌}
use native.Mathlib.Nat.{lt_of_lt_of_le}
use native.Mathlib.Omega.{arith}
use mathlib.Core.Path.{◌≡◌}
use lib.Pow.{pow_mono, shl_exact}
use Rattle.lists.proofs.Halves.{above_lt}
use Rattle.bits.proofs.stream.BitStream.write_u64.Goals as goal

-- a value of `bits` bits is not cut off by a shift
whole : (v w at bits : ℕ) → w < 2 ^ bits → v ≡ w → at + bits ≤ 128 → v * 2 ^ at % 2 ^ 128 ≡ w * 2 ^ at
whole v w at bits k e room = rw e (shl_exact bits at 128 k (omega arith))

pub overflow_add-result : goal.overflow_add-result
overflow_add-result c =
    let a = c.args in
    rw (whole c.from.result a.value a.self.bits a.bits c.requires.fits c.from.ensures c.requires.room)
    (record { fits = lt_of_lt_of_le (above_lt a.self.data a.value a.self.bits a.bits a.self.above c.requires.fits) (pow_mono {j = 128} c.requires.room) })

pub invariant_of-result : goal.invariant_of-result
invariant_of-result c =
    let a = c.args in
    record { above = rw (whole c.from.result a.value a.self.bits a.bits c.requires.fits c.from.ensures c.requires.room) (above_lt a.self.data a.value a.self.bits a.bits a.self.above c.requires.fits) }

pub returns-clause-same : goal.returns-clause-same
returns-clause-same c =
    let a = c.args in
    rw (whole c.from.result a.value a.self.bits a.bits c.requires.fits c.from.ensures c.requires.room)
