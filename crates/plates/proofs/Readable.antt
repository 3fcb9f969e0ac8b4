-- The mode said of a block tells the refusal with which it is read: one test that antt computes over the modes.
use Prim.Native.Nat.{ℕ, ◌+◌, ◌%◌, ◌^◌, ◌≤◌, ◌<◌}
use native.Mathlib.Numerals.{add-one}
use native.Mathlib.Omega.{arith}
use mathlib.Core.Path.{◌≡◌, refl}
use mathlib.Core.Bool.{Bool, true, false}
use lib.Count.{count_trailing_zeros}
use lib.Dec.{T, ltb, eqb, eqb→eq, ltb→lt}
use lib.ListN.{get_or}
use borrow.Author.Tests.{eqb-true, ne_eqb}
use Rattle.lists.specs.Tests.{pick, or}
use Rattle.lists.specs.Digits.{zeros_below}
use Rattle.lists.proofs.Tables.{tested}
use Rattle.lists.proofs.Digits.{zeros_is, zeros_le, low_of}
use Rattle.bptc.specs.Mode.{mode_numbered}
use Rattle.bptc_block.specs.ReadCall.{read_refusal}
use Rattle.bptc_block.proofs.Readable.{by_zeros, readable}
use Rattle.mistakes.specs.Unreadable.{is_read}
use Rattle.plates.specs.Readable.{ToldByMode, ModeTells}

-- the refusal of a block of a mode, by the words of a plate
abbrev told : ℕ → ℕ
told mode = pick (is_read mode) 0 (pick (eqb mode 8) 8 9)

-- the refusal of a mode is that of the call
told_right : (mode : ℕ) → mode ≤ 8 → by_zeros mode ≡ told mode
unfolding mode_numbered
told_right mode h = eqb→eq _ _ (tested (λ (z : ℕ). eqb (by_zeros z) (told z)) 9 tt mode (omega arith))

-- what a mode tells, by the laws of its byte
told_apart : (byte mode : ℕ) → mode ≤ 8 → (mode < 8 → byte % 2 ^ (mode + 1) ≡ 2 ^ mode) → (mode ≡ 8 → byte ≡ 0) →
    ToldByMode byte mode (told mode)
told_apart byte mode most lowest none = record {
  lowest = lowest;
  none = none;
  most = most;
  read = λ e. rw e;
  reserved = λ e. rw e;
  other = λ e less. rw (e, ne_eqb mode 8 (λ same. omega arith));
}

-- a byte with 8 zero bits below the lowest one bit is 0, by a test of each byte
no-ones : (b : ℕ) → b < 256 → zeros_below 8 b ≡ 8 → b ≡ 0
unfolding zeros_below
no-ones b h e = go (eqb b 0) refl (tested (λ (x : ℕ). or (eqb x 0) (ltb (zeros_below 8 x) 8)) 256 tt b h)
  where
    go : (t : Bool) → eqb b 0 ≡ t → T (or t (ltb (zeros_below 8 b) 8)) → b ≡ 0
    go true zero t = eqb-true b 0 zero
    go false some t = absurd (omega (arith, ltb→lt _ _ t))

-- what the mode of sixteen bytes tells
pub mode_tells : ModeTells
unfolding read_refusal
mode_tells block px small long wide =
    let byte : ℕ = get_or block 0 0 in
    let z : count_trailing_zeros 8 byte ≡ zeros_below 8 byte = zeros_is 8 byte in
    rw (long, wide, readable block small, z, told_right (zeros_below 8 byte) (zeros_le 8 byte))
    (told_apart byte (zeros_below 8 byte) (zeros_le 8 byte) (λ less. rw add-one (low_of 8 byte less)) (no-ones byte small))
