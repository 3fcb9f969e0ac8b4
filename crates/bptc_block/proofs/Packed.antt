-- Laws of a block's bytes: reading what was packed returns the fields and the mode, and packing what was read returns the block.
use Prim.Native.Nat.{ℕ, suc, ◌+◌, ◌-◌, ◌%◌, ◌^◌, ◌<◌}
use native.Mathlib.Nat.{sub-add_cancel, mod-lt}
use native.Mathlib.Numerals.{add-one}
use mathlib.Core.Path.{◌≡◌, refl, ap, ◌∙◌}
use mathlib.Core.List.{List}
use lib.ListN.{length, get_or}
use lib.Pow.{pow_pos, mod-mod-pow}
use Rattle.lists.specs.Rows.{sum}
use Rattle.lists.specs.Bytes.{Bytes}
use Rattle.lists.proofs.Digits.{zeros_of, low_of}
use Rattle.lists.specs.Bits.{split, join}
use Rattle.lists.specs.Bytes.{bytes, number}
use Rattle.lists.proofs.Bits.{fits-length, fits-at, fits-split, split-join, join-split, join_lt}
use Rattle.lists.proofs.Bytes.{length-bytes, bytes-bytes, bytes-number, number-bytes, number_lt}
use Rattle.bptc_block.specs.Fields.{BlockFields}
use Rattle.bptc.specs.Mode.{Mode}
use Rattle.bptc_block.specs.Fields.{WellFormed, stores, widths, values, made}
use Rattle.bptc_block.specs.Packed.{packed, mode_of, partition_in, fields_of}
use Rattle.bptc_block.proofs.Modes.{Lawful}
use Rattle.bptc_block.proofs.Widths.{made-values, values-made, fits-values, length-widths, made_formed}

-- a block has sixteen bytes
pub packed-length : (m : Mode) (f : BlockFields) → length (packed m f) ≡ 16
unfolding packed
packed-length m f = length-bytes 16 (join (widths m f.partition) (values m f))

-- and they are bytes
pub packed-bytes : (m : Mode) (f : BlockFields) → Bytes (packed m f)
unfolding packed
packed-bytes m f = bytes-bytes 16 (join (widths m f.partition) (values m f))

-- the mode of a number's bytes, by the field that stands first
low_byte : (n k : ℕ) → k < 8 → n % 256 % 2 ^ suc k ≡ n % 2 ^ suc k
low_byte n k h = rw (sub-add_cancel {n = 8} {m = suc k} h) at (mod-mod-pow n (8 - suc k) (suc k))

pub mode_of_number : (n k : ℕ) → k < 8 → n % 2 ^ suc k ≡ 2 ^ k → mode_of (bytes 16 n) ≡ k
unfolding mode_of bytes split
mode_of_number n k h e = zeros_of 8 k (n % 256) h (rw low_byte e)

-- and back: the first field of a block of that mode
pub number_of_mode : (n k : ℕ) → k < 8 → mode_of (bytes 16 n) ≡ k → n % 2 ^ suc k ≡ 2 ^ k
unfolding mode_of bytes split
number_of_mode n k h e = rw (← low_byte n k h, ← e) (low_of 8 (n % 256) (rw e h))

module _ (m : Mode) (part n : ℕ) where
  first_field : get_or (split (widths m part) n) 0 0 ≡ n % 2 ^ suc m.number
  unfolding split widths
  first_field = rw add-one

  second-field : get_or (split (widths m part) n) 1 0 ≡ partition_in m n
  unfolding split widths partition_in
  second-field = refl

-- the partition in a block is one of the mode's
pub partition_lt : (m : Mode) (n : ℕ) → partition_in m n < 2 ^ m.partition_bits
unfolding partition_in
partition_lt m n = mod-lt _ (pow_pos m.partition_bits)

-- and it is the one among its fields
pub partition_of_lem : (m : Mode) (block : List ℕ) → (fields_of m block).partition ≡ partition_in m (number block)
unfolding fields_of made
partition_of_lem m block = second-field m (partition_in m (number block)) (number block)

sixteen-bytes : (block : List ℕ) → length block ≡ 16 → Bytes block → bytes 16 (number block) ≡ block
sixteen-bytes block sixteen bs = rw (← sixteen) (bytes-number block bs)

module _ (m : Mode) (law : Lawful m) where
  split-length : (part n : ℕ) → length (split (widths m part) n) ≡ 19 + stores m
  split-length part n = fits-length (fits-split (widths m part) n) ∙ length-widths m law part

  -- what a block of any mode holds is well formed
  pub well_formed : (block : List ℕ) → WellFormed m (fields_of m block)
  unfolding fields_of
  well_formed block =
      let n : ℕ = number block in
      let ws : List ℕ = widths m (partition_in m n) in
      made_formed m law (partition_in m n) (split ws n) (split-length (partition_in m n) n) (fits-at (fits-split ws n)) (second-field m (partition_in m n) n)

  module _ (f : BlockFields) (w : WellFormed m f) where
    -- the number of a packed block
    pub number-packed : number (packed m f) ≡ join (widths m f.partition) (values m f)
    unfolding packed
    number-packed = number-bytes 16 _ (rw (law.whole f.partition w.within.partition) at (join_lt (fits-values m law f w)))

    -- its fields are the values that were packed
    pub split-packed : split (widths m f.partition) (number (packed m f)) ≡ values m f
    split-packed = rw number-packed (split-join (fits-values m law f w))

    -- reading what was packed returns the fields
    pub fields-packed : fields_of m (packed m f) ≡ f
    unfolding fields_of values
    fields-packed =
        let part : partition_in m (number (packed m f)) ≡ f.partition = rw second-field at (ap (λ (vs : List ℕ). get_or vs 1 0) split-packed) in
        rw (part, split-packed) (made-values m law f w)

    -- and the mode
    pub mode-packed : mode_of (packed m f) ≡ m.number
    unfolding packed values
    mode-packed = mode_of_number _ m.number law.low (rw first_field at (ap (λ (vs : List ℕ). get_or vs 0 0) (split-join (fits-values m law f w))))

  module _ (block : List ℕ) (sixteen : length block ≡ 16) (bs : Bytes block) (mode : mode_of block ≡ m.number) where
    -- the values of what was read are the block's fields
    pub values-fields : values m (fields_of m block) ≡ split (widths m (partition_in m (number block))) (number block)
    unfolding fields_of
    values-fields =
        values-made m law _ (split-length (partition_in m (number block)) (number block))
        (rw first_field (number_of_mode (number block) m.number law.low (rw (sixteen-bytes block sixteen bs) mode)))

    -- packing what was read returns the block
    pub packed-fields : packed m (fields_of m block) ≡ block
    unfolding packed
    packed-fields =
        let n : ℕ = number block in
        let part : ℕ = partition_in m n in
        let small : n < 2 ^ sum (widths m part) = rw (law.whole part (partition_lt m n)) (rw sixteen at (number_lt block bs)) in
        rw (values-fields, partition_of_lem, join-split (widths m part) n small) (sixteen-bytes block sixteen bs)
