-- Laws of a mode's largest index: it is all ones.
use Prim.Native.Nat.{ℕ, zero, suc, ◌-◌, ◌^◌, ◌≤◌, ◌<◌}
use native.Mathlib.Nat.{pow-suc}
use native.Mathlib.Omega.{arith}
use mathlib.Core.Path.{◌≡◌}
use lib.Pow.{pow_pos, le_ones, lt_of_le_ones}
use Rattle.bptc.specs.Mode.{Mode, largest}

-- an index up to the largest has the mode's bits
pub largest-fits : (m : Mode) (i : ℕ) → i < suc (largest m) → i < 2 ^ m.index_bits
unfolding largest
largest-fits m i h = lt_of_le_ones m.index_bits (omega arith)

-- and back
pub fits-largest : (m : Mode) (i : ℕ) → i < 2 ^ m.index_bits → i < suc (largest m)
unfolding largest
fits-largest m i h = omega (arith, le_ones m.index_bits h)

top_of : (w i : ℕ) → 0 < w → 2 ^ (w - 1) ≤ i → 2 ^ w - 1 - i < 2 ^ (w - 1)
top_of zero i h l = absurd (omega arith)
top_of (suc w) i h l =
    let e : suc w - 1 ≡ w = omega arith in
    rw e (omega (arith, rw e at l, pow-suc 2 w, pow_pos w))

-- an index with its top bit set, taken from the largest, has its top bit 0
pub top_turned : (m : Mode) → 0 < m.index_bits → (i : ℕ) → 2 ^ (m.index_bits - 1) ≤ i → largest m - i < 2 ^ (m.index_bits - 1)
unfolding largest
top_turned m some i l = top_of m.index_bits i some l
