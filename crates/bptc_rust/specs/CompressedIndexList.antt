-- bc7.rs: IndexList::compress_p2, which flips subsets and takes the anchors' top bits out.
use Rattle.std.specs.Prelude.{ℕ, ◌+◌, ◌-◌, ◌*◌, Bool, eqb}
use Rattle.std.specs.Int.Bits.{bit_and, bit_or, bit_xor}
use Rattle.lists.specs.Tests.{pick}
use Rattle.bptc_rust.specs.Words.{shl, shr, complement, differs}
use Rattle.bptc_rust.specs.Subset2Map.{Subset2Map}
use Rattle.bptc_rust.specs.IndexList.{INDEXES-MASK}

-- the indexes of a subset flipped where the top bit of its anchor's is set, and whether it was
unfoldable pub ensure_msb_zero : ℕ → ℕ → ℕ → ℕ → ℕ × Bool
ensure_msb_zero I self index subset-mask =
    let msb-mask : ℕ = shl 64 1 (I - 1 + index * I) in
    let swap : Bool = differs (bit_and self msb-mask) 0 in
    (pick swap (bit_xor self subset-mask) self, swap)

-- the top bit of an index taken out
unfoldable pub compress_single_index : ℕ → ℕ → ℕ → ℕ
compress_single_index I indexes index =
    let msb-mask : ℕ = shl 64 1 (I - 1 + index * I) in
    let before-mask : ℕ = msb-mask - 1 in
    let after-mask : ℕ = shl 64 (complement 64 before-mask) 1 in
    bit_or (bit_and indexes before-mask) (shr (bit_and indexes after-mask) 1)

-- each of sixteen bits twice
unfoldable pub bits_repeat2_u16 : ℕ → ℕ
bits_repeat2_u16 x =
    let x1 : ℕ = bit_and (bit_or x (shl 32 x 8)) 0x00FF_00FF in
    let x2 : ℕ = bit_and (bit_or x1 (shl 32 x1 4)) 0x0F0F_0F0F in
    let x3 : ℕ = bit_and (bit_or x2 (shl 32 x2 2)) 0x3333_3333 in
    let x4 : ℕ = bit_and (bit_or x3 (shl 32 x3 1)) 0x5555_5555 in
    bit_or x4 (shl 32 x4 1)

-- and three times
unfoldable pub bits_repeat3_u16 : ℕ → ℕ
bits_repeat3_u16 x =
    let x1 : ℕ = bit_and (bit_or x (shl 64 x 16)) 0b000000000000000011111111_000000000000000011111111 in
    let x2 : ℕ = bit_and (bit_or x1 (shl 64 x1 8)) 0b000000001111000000001111_000000001111000000001111 in
    let x3 : ℕ = bit_and (bit_or x2 (shl 64 x2 4)) 0b000011000011000011000011_000011000011000011000011 in
    let x4 : ℕ = bit_and (bit_or x3 (shl 64 x3 2)) 0b001001001001001001001001_001001001001001001001001 in
    bit_or (bit_or x4 (shl 64 x4 1)) (shl 64 x4 2)

-- the indexes without the two anchors' top bits, and how many bits they have
pub record CompressedIndexList : Type 0 where
  pub compressed_indexes : ℕ
  pub bits : ℕ

-- the compressed list, and whether each subset is swapped
unfoldable pub compress_p2 : ℕ → ℕ → Subset2Map → CompressedIndexList × Bool × Bool
compress_p2 I self subset =
    let p2-fixup : ℕ = subset.fixup_index_2 in
    let mask-s1 : ℕ = pick (eqb I 2) (bits_repeat2_u16 subset.subset_indexes) (bits_repeat3_u16 subset.subset_indexes) in
    let (self1, swap1) = ensure_msb_zero I self 0 (bit_xor mask-s1 (INDEXES-MASK I)) in
    let (self2, swap2) = ensure_msb_zero I self1 p2-fixup mask-s1 in
    let compressed1 : ℕ = compress_single_index I self2 p2-fixup in
    let compressed2 : ℕ = compress_single_index I compressed1 0 in
    (record { compressed_indexes = compressed2; bits = 16 * I - 2 }, swap1, swap2)
