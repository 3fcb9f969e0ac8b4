-- `bits::indexes::compress_p2` meets its contract.
use Prim.Native.Nat.{ℕ, ◌*◌, ◌/◌, ◌%◌, ◌^◌, ◌≤◌, ◌<◌}
use native.Mathlib.Nat.{mul_comm}
use native.Mathlib.Omega.{arith}
use mathlib.Core.Path.{◌≡◌, ap, ◌∙◌}
use lib.Bits.{bit_xor}
use Rattle.bptc.specs.Partition.{anchor_of}
use Rattle.bptc.specs.Internal.Masks.{ones_of, entry_of}
use Rattle.bptc.proofs.PartitionRule.{placed, entry_ones, entry-anchor}
use Rattle.bptc_rust.specs.IndexList.{INDEXES-MASK}
use Rattle.bptc_rust.specs.CompressedIndexList.{ensure_msb_zero}
use Rattle.bptc_rust.proofs.Digits.{one_shl}
use Rattle.bptc_rust.proofs.Masks.{double_of}
use Rattle.bptc_rust.proofs.Doubles.{p2_steps}
use Rattle.bits.proofs.FewBits.{few_bits}
use Rattle.bits.proofs.indexes.compress_p2.Goals as goal

-- the place of the anchor in an entry
size-is : {bits w : ℕ} → bits ≤ 3 → w ≡ bits → 1 * 2 ^ (w * 16) % 2 ^ 64 ≡ 2 ^ (16 * bits)
size-is {bits} few same = rw (same, mul_comm 16 bits) (one_shl 64 (bits * 16) (omega arith))

module _ (part : ℕ) {bits entry w : ℕ} (few : bits ≤ 3) (same : w ≡ bits) (is : entry ≡ entry_of bits part) where
  -- what stands below it
  low-is : entry % (1 * 2 ^ (w * 16) % 2 ^ 64) ≡ ones_of bits part
  low-is = rw (size-is few same, is) (entry_ones bits part)

  -- and from it on
  anchor-is : entry / (1 * 2 ^ (w * 16) % 2 ^ 64) ≡ anchor_of 2 part 1
  anchor-is = rw (size-is few same, is) (entry-anchor bits part)

  -- which is one of the sixteen pixels
  anchor-inside : part < 64 → entry / (1 * 2 ^ (w * 16) % 2 ^ 64) < 16
  anchor-inside h = rw anchor-is (placed part h).inside

pub ensure_msb_zero-second-requires : goal.ensure_msb_zero-second-requires
ensure_msb_zero-second-requires g c =
    let m = g.M.Mode in
    let partition = c.args.partition in
    anchor-inside partition.number (few_bits m.mode m.is_mode) (c.INDEX_BITS.ensures ∙ m.index_bits_are) c.entry-entry.ensures partition.inside

pub compress_single_index-shorter-requires : goal.compress_single_index-shorter-requires
compress_single_index-shorter-requires g c =
    let m = g.M.Mode in
    let partition = c.args.partition in
    anchor-inside partition.number (few_bits m.mode m.is_mode) (c.INDEX_BITS.ensures ∙ m.index_bits_are) c.entry-entry.ensures partition.inside

pub returns : goal.returns
returns g c =
    let m = g.M.Mode in
    let few = few_bits m.mode m.is_mode in
    let partition = c.args.partition in
    let w = c.INDEX_BITS.ensures ∙ m.index_bits_are in
    let mask = c.entry-entry.result % (1 * 2 ^ (c.INDEX_BITS.result * 16) % 2 ^ 64) in
    let first = c.ensure_msb_zero-first.ensures ∙ ap (λ (n : ℕ). ensure_msb_zero m.mode.index_bits c.args.indexes 0 (bit_xor mask (INDEXES-MASK n))) w in
    let (same, (swap0, swap1)) = p2_steps m.mode (double_of m.mode m.is_mode) c.args.indexes partition.number partition.inside
    (low-is partition.number few w c.entry-entry.ensures) (anchor-is partition.number few w c.entry-entry.ensures)
    (ap (λ r. r.0) first) (ap (λ r. r.1) first) (ap (λ r. r.0) c.ensure_msb_zero-second.ensures) (ap (λ r. r.1) c.ensure_msb_zero-second.ensures)
    c.compress_single_index-shorter.ensures c.compress_single_index.ensures in
    record { same = same; first = swap0; second = swap1 }
