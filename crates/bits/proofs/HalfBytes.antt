-- The bytes of a number's two halves of 64 bits.
use Prim.Native.Nat.{ℕ, ◌+◌, ◌-◌, ◌*◌, ◌/◌, ◌%◌, ◌^◌, ◌<◌, ◌≤◌}
use native.Mathlib.Nat.{zero-mul, zero-add}
use native.Mathlib.Omega.{arith}
use mathlib.Core.List.{List, ◌++◌, map, append-nil}
use mathlib.Core.Path.{◌≡◌, sym, ap, ap₂, ◌∙◌}
use borrow.Rule.Slice.PartMut.{put_mid}
use lib.ListN.{length, get_or, drop, length-append, length-drop, drop_of_length-le}
use lib.Seq.{take-append_seam}
use Rattle.lists.specs.Rows.{up_from}
use Rattle.lists.specs.Internal.Fields.{halves}
use Rattle.lists.specs.Bytes.{bytes}
use Rattle.lists.proofs.Rows.{each_same, listed}
use Rattle.lists.proofs.Bytes.{bytes-at, length-bytes}
use Rattle.lists.proofs.Halves.{byte_low, byte_high}

-- a byte of eight
pub half_at : (n i : ℕ) → n < 2 ^ 64 → i < 8 → get_or (bytes 8 n) i 0 ≡ n / 2 ^ (8 * i) % 256
half_at n i h l =
    let alone : halves n 0 ≡ n = rw (zero-mul, zero-add) in
    bytes-at 8 n i l ∙ sym (bytes-at 16 n i (omega arith)) ∙ rw alone at (byte_low n 0 i h l)

-- both halves, one after the other
pub halves-bytes : (low high : ℕ) → low < 2 ^ 64 → high < 2 ^ 64 → bytes 8 low ++ bytes 8 high ≡ bytes 16 (halves low high)
halves-bytes low high l h =
    let n : ℕ = halves low high in
    let at : ℕ → ℕ = λ i. get_or (bytes 16 n) i 0 in
    let lower : bytes 8 low ≡ map at (up_from 0 8) =
    sym (listed 0 (bytes 8 low) 8 (length-bytes 8 low)) ∙ each_same 0 (λ (i : ℕ). get_or (bytes 8 low) i 0) at 8 (λ i k. half_at low i l k ∙ sym (byte_low low high i l k)) in
    let place : (i : ℕ) → 8 * (8 + i) - 64 ≡ 8 * i = λ i. omega arith in
    let upper : bytes 8 high ≡ map (λ (i : ℕ). at (8 + i)) (up_from 0 8) =
    sym (listed 0 (bytes 8 high) 8 (length-bytes 8 high))
    ∙ each_same 0 (λ (i : ℕ). get_or (bytes 8 high) i 0) (λ (i : ℕ). at (8 + i)) 8
    (λ i k. half_at high i h k ∙ sym (rw place at (byte_high low high (8 + i) l (omega arith) (omega arith)))) in
    ap₂ ◌++◌ lower upper ∙ listed 0 (bytes 16 n) 16 (length-bytes 16 n)

-- eight bytes written over the second half of sixteen
pub second_half : (first rest second : List ℕ) → length first ≡ 8 → length rest ≡ 8 → put_mid 8 8 (first ++ rest) second ≡ first ++ second
second_half first rest second e k =
    let last : length (drop 8 (first ++ rest)) ≤ 8 = omega (arith, length-drop 8 (first ++ rest), length-append first rest, e, k) in
    ap₂ ◌++◌ (rw e at (take-append_seam first rest)) (ap (λ (xs : List ℕ). second ++ xs) (drop_of_length-le (drop 8 (first ++ rest)) last) ∙ append-nil second)
