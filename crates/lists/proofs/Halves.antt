-- Laws of a value written above the bits of a number, and of the bytes of a number in two halves of 64 bits.
use Prim.Native.Nat.{ℕ, ◌+◌, ◌-◌, ◌*◌, ◌/◌, ◌%◌, ◌^◌, ◌≤◌, ◌<◌}
use native.Mathlib.Nat.{add_comm, mul_comm}
use native.Mathlib.Omega.{arith}
use mathlib.Core.Path.{◌≡◌, sym, ap, ◌∙◌}
use lib.Arith.{digits_lt}
use lib.ListN.{get_or}
use lib.Pow.{pow-add, shr-shr, high, low}
use Rattle.lists.specs.Internal.Fields.{halves}
use Rattle.lists.specs.Bytes.{bytes}
use Rattle.lists.proofs.Bits.{sum-replicate}
use Rattle.lists.proofs.Bytes.{bits_of, window, bytes-at}

-- the place of a byte
byte-place : (i : ℕ) → 2 ^ (8 * i) ≡ 256 ^ i
byte-place i = rw (mul_comm 8 i, ← sum-replicate i 8) (bits_of i)

-- a value of so many bits above n stays below the next place
pub above_lt : (n v at w : ℕ) → n < 2 ^ at → v < 2 ^ w → n + v * 2 ^ at < 2 ^ (at + w)
above_lt n v at w h k = rw (add_comm n (v * 2 ^ at), add_comm at w, pow-add) (digits_lt k h)

-- a byte of the lower half
pub byte_low : (lo hi i : ℕ) → lo < 2 ^ 64 → i < 8 → get_or (bytes 16 (halves lo hi)) i 0 ≡ lo / 2 ^ (8 * i) % 256
byte_low lo hi i h l =
    let n : ℕ = halves lo hi in
    let e : 56 - 8 * i + 8 + 8 * i ≡ 64 = omega arith in
    let own : n % 2 ^ 64 ≡ lo = low hi 64 h in
    bytes-at 16 n i (omega arith) ∙ rw (← byte-place i) (sym (rw (e, own) at (window n (56 - 8 * i) 8 (8 * i))))

-- and of the upper half
pub byte_high : (lo hi i : ℕ) → lo < 2 ^ 64 → 8 ≤ i → i < 16 → get_or (bytes 16 (halves lo hi)) i 0 ≡ hi / 2 ^ (8 * i - 64) % 256
byte_high lo hi i h l k =
    let n : ℕ = halves lo hi in
    let e : 64 + (8 * i - 64) ≡ 8 * i = omega arith in
    let own : n / 2 ^ 64 ≡ hi = high hi 64 h in
    bytes-at 16 n i k ∙ rw (← byte-place i) (ap (λ (x : ℕ). x % 256) (sym (rw (e, own) at (shr-shr n 64 (8 * i - 64)))))
