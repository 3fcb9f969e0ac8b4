-- What compress_p2 asks of a mode, by tests that antt computes over the partitions: the masks of the two subsets.
use Prim.Native.Nat.{ℕ, ◌-◌, ◌^◌, ◌<◌}
use mathlib.Core.Path.{◌≡◌, refl, sym, ap, ◌∙◌}
use mathlib.Core.Bool.{Bool}
use mathlib.Core.List.{[], ◌∷◌, map}
use lib.Bits.{bit_xor}
use lib.Dec.{T, eqb, eqb→eq}
use lib.ListN.{replicate}
use Rattle.lists.specs.Tests.{pick, all}
use Rattle.lists.specs.Rows.{up_from}
use Rattle.lists.specs.Bits.{join}
use Rattle.lists.proofs.Tables.{tested}
use Rattle.bptc.specs.Mode.{Mode, mode1, mode3, IsMode}
use Rattle.bptc.specs.Partition.{masks, table, digits_of, subset_of, anchor_of, anchor_in}
use Rattle.bptc.specs.Internal.Masks.{mask_of, ones_of}
use Rattle.bptc.proofs.Modes.{by_mode}
use Rattle.bptc_rust.specs.IndexList.{INDEXES-MASK}
use Rattle.bptc_rust.specs.CompressedIndexList.{bits_repeat2_u16, bits_repeat3_u16}
use Rattle.bptc_rust.specs.Internal.Indexes.{fixups, subset_mask}

-- the mask that the Rust makes of the partition's
abbrev pub repeated : Mode → ℕ → ℕ
repeated m part = pick (eqb m.index_bits 2) (bits_repeat2_u16 (mask_of part)) (bits_repeat3_u16 (mask_of part))

-- of a mode: two subsets, in as many partitions as there are texts
pub record Double (m : Mode) : Type 0 where
  pub two : m.subsets ≡ 2
  pub parts : 2 ^ m.partition_bits ≡ 64
  pub second : (part : ℕ) → part < 64 → repeated m part ≡ subset_mask m part 1
  pub first : (part : ℕ) → part < 64 → bit_xor (subset_mask m part 1) (INDEXES-MASK m.index_bits) ≡ subset_mask m part 0

-- the test of `second`
abbrev second_test : Mode → ℕ → Bool
second_test m part = eqb (repeated m part) (subset_mask m part 1)

-- the test of `first`
abbrev first_test : Mode → ℕ → Bool
first_test m part = eqb (bit_xor (subset_mask m part 1) (INDEXES-MASK m.index_bits)) (subset_mask m part 0)

double_by : (m : Mode) → m.subsets ≡ 2 → 2 ^ m.partition_bits ≡ 64 → T (all (second_test m) (up_from 0 64)) → T (all (first_test m) (up_from 0 64)) → Double m
double_by m two parts t u =
    record {
      two = two;
      parts = parts;
      second = λ part h. eqb→eq _ _ (tested (second_test m) 64 t part h);
      first = λ part h. eqb→eq _ _ (tested (first_test m) 64 u part h);
    }

-- mode 1
double1 : Double mode1
unfolding bits_repeat3_u16 subset_mask subset_of digits_of table masks join
double1 = double_by mode1 refl refl tt tt

-- mode 3
double3 : Double mode3
unfolding bits_repeat2_u16 subset_mask subset_of digits_of table masks join
double3 = double_by mode3 refl refl tt tt

-- either mode
pub double_of : (m : Mode) → IsMode m → Double m
double_of = by_mode Double double1 double3

module _ (m : Mode) (q : Double m) (part : ℕ) where
  ones_masked : ones_of m.index_bits part ≡ subset_mask m part 1
  unfolding ones_of subset_mask
  ones_masked =
      ap (λ (n : ℕ). join (replicate 16 m.index_bits) (map (λ (i : ℕ). pick (eqb (subset_of n part i) 1) (2 ^ m.index_bits - 1) 0) (up_from 0 16))) (sym q.two)

  -- the bits of subset 1's indexes are the mask that the Rust makes
  pub ones_repeated : part < 64 → ones_of m.index_bits part ≡ repeated m part
  ones_repeated inside = ones_masked ∙ sym (q.second part inside)

  -- the second anchor is that of subset 1
  pub anchor_second : anchor_of 2 part 1 ≡ anchor_in m part 1
  anchor_second = ap (λ (n : ℕ). anchor_of n part 1) (sym q.two)

  -- the anchors from the last pixel down
  pub fixups_two : fixups m part ≡ anchor_in m part 1 ∷ (0 ∷ [])
  unfolding fixups
  fixups_two = rw q.two refl
