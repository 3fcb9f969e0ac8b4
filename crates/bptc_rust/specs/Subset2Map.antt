-- bcn_data.rs: Subset2Map, the 64 partitions as texts, and a block sorted by subsets.
use Rattle.std.specs.Prelude.{ℕ, ◌+◌, ◌-◌, List, [], ◌∷◌, eqb, ltb, get_or, set}
use Prim.Native.Char.{code}
use Prim.Native.String.{String, char_at}
use Rattle.std.specs.Int.Bits.{bit_and, bit_or}
use Rattle.std.specs.Int.Count.{ones_in}
use Rattle.lists.specs.Tests.{pick, and}
use Rattle.lists.specs.Rows.{up_from}
use Rattle.bptc_rust.specs.Words.{shl, shr, differs, loop}

-- bit i of subset_indexes is the subset of pixel i, and fixup_index_2 is the anchor of subset 1
pub record Subset2Map : Type 0 where
  pub subset_indexes : ℕ
  pub fixup_index_2 : ℕ

-- a text of sixteen digits, with a dash before the anchor's: output_p2, fixup_index_2 and pixel_index
unfoldable pub subset2 : String → Subset2Map
subset2 text =
    let (output-p2, fixup_index_2, last) =
    loop (up_from 0 17) (0, 0, 0)
    (λ ((output-p2, fixup_index_2, pixel-index) : ℕ × ℕ × ℕ) (data-index : ℕ).
    let d : ℕ = code (char_at text data-index) in
    pick (eqb d (code "-")) (output-p2, pixel-index, pixel-index) (bit_or output-p2 (shl 16 (d - code "0") pixel-index), fixup_index_2, pixel-index + 1)) in
    record { subset_indexes = output-p2; fixup_index_2 = fixup_index_2 }

-- the texts that PARTITION_SET_2 is made of
unfoldable pub texts : List String
texts =
    "001100110011001-1" ∷ "000100010001000-1" ∷ "011101110111011-1" ∷ "000100110011011-1" ∷ "000000010001001-1" ∷ "001101110111111-1" ∷ "000100110111111-1" ∷ "000000010011011-1"
    ∷ "000000000001001-1" ∷ "001101111111111-1" ∷ "000000010111111-1" ∷ "000000000001011-1" ∷ "000101111111111-1" ∷ "000000001111111-1" ∷ "000011111111111-1" ∷ "000000000000111-1"
    ∷ "000010001110111-1" ∷ "01-11000100000000" ∷ "00000000-10001110" ∷ "01-11001100010000" ∷ "00-11000100000000" ∷ "00001000-11001110" ∷ "00000000-10001100" ∷ "011100110011000-1"
    ∷ "00-11000100010000" ∷ "00001000-10001100" ∷ "01-10011001100110" ∷ "00-11011001101100" ∷ "00010111-11101000" ∷ "00001111-11110000" ∷ "01-11000110001110" ∷ "00-11100110011100"
    ∷ "010101010101010-1" ∷ "000011110000111-1" ∷ "010110-1001011010" ∷ "00110011-11001100" ∷ "00-11110000111100" ∷ "01010101-10101010" ∷ "011010010110100-1" ∷ "010110101010010-1"
    ∷ "01-11001111001110" ∷ "00010011-11001000" ∷ "00-11001001001100" ∷ "00-11101111011100" ∷ "01-10100110010110" ∷ "001111001100001-1" ∷ "011001101001100-1" ∷ "000001-1001100000"
    ∷ "010011-1001000000" ∷ "00-10011100100000" ∷ "000000-1001110010" ∷ "00000100-11100100" ∷ "011011001001001-1" ∷ "001101101100100-1" ∷ "01-10001110011100" ∷ "00-11100111000110"
    ∷ "011011001100100-1" ∷ "011000110011100-1" ∷ "011111101000000-1" ∷ "000110001110011-1" ∷ "000011110011001-1" ∷ "00-11001111110000" ∷ "00-10001011101110" ∷ "010001000111011-1" ∷ []

-- PARTITION_SET_2[partition]
unfoldable pub PARTITION-SET-2 : ℕ → Subset2Map
PARTITION-SET-2 partition = subset2 (get_or texts partition "")

-- the subset of a pixel
unfoldable pub get_subset_index : Subset2Map → ℕ → ℕ
get_subset_index self pixel-index = bit_and (shr self.subset_indexes pixel-index) 0b1

-- how many pixels lie in subset 0
unfoldable pub count_zeros : Subset2Map → ℕ
count_zeros self = 16 - ones_in 16 self.subset_indexes

-- sort_block's set: the numbers i | (subset_index(i) << 4)
unfoldable pub bitset : Subset2Map → ℕ
bitset self = loop (up_from 0 16) 0 (λ (bits i : ℕ). bit_or bits (shl 32 1 (bit_or i (shl 8 (get_subset_index self i) 4))))

-- the block's elements by subset, in their order; d stands for what lies outside the block, and is never read
unfoldable pub sort_block : {T : Type 0} → T → Subset2Map → List T → List T
sort_block {T} d self original =
    (loop (up_from 0 32) (original, 0)
    (λ ((block, count) : List T × ℕ) (i : ℕ).
    pick (and (differs (bit_and (bitset self) (shl 32 1 i)) 0) (ltb count 16))
    (set block count (get_or original (bit_and i 0x0F) d), count + 1)
    (block, count))
    ).0
