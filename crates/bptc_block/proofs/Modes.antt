-- What the laws of packing, reading and finishing ask of a mode, by one test that antt computes.
use Prim.Native.Nat.{ℕ, ◌^◌, ◌≤◌, ◌<◌}
use native.Mathlib.Nat.{mod-lt}
use mathlib.Core.Path.{◌≡◌, refl}
use mathlib.Core.Bool.{Bool, true}
use mathlib.Core.List.{List, [], ◌∷◌, map}
use lib.Dec.{T, eqb, ltb, leb, eqb→eq, ltb→lt, leb→le}
use lib.ListN.{get_or}
use Rattle.lists.specs.Tests.{and, all}
use Rattle.lists.specs.Rows.{up_from, sum}
use Rattle.lists.proofs.Tests.{and_left, and_right}
use Rattle.lists.proofs.Tables.{tested, all_true, each-true}
use Rattle.bptc.specs.Mode.{Mode, mode1, mode3, modes, endpoints, p_bits, IsMode, mode_numbered}
use Rattle.bptc.specs.Partition.{masks, anchors, table, digits_of, subset_of, anchor_of, subset_in, anchor_in}
use Rattle.bptc.proofs.Modes.{Shades, shades1, shades3, by_mode, each_mode}
use Rattle.bptc_block.specs.Fields.{places, index_width, widths}
use Rattle.bptc_block.specs.Limits.{Limits, limits}

pub record Lawful (m : Mode) : Type 0 where
  pub shades : Shades m
  -- the number has its bit in byte 0
  pub low : m.number < 8
  pub some : 0 < m.subsets
  pub few : endpoints m ≤ places
  pub bits : 0 < m.index_bits
  -- the fields fill a block, whatever the partition
  pub whole : (part : ℕ) → part < 2 ^ m.partition_bits → sum (widths m part) ≡ 128
  -- the anchor of each subset lies in it
  pub placed : (part : ℕ) → part < 2 ^ m.partition_bits → (s : ℕ) → s < m.subsets → subset_in m part (anchor_in m part s) ≡ s
  pub inside : (part : ℕ) → part < 2 ^ m.partition_bits → (s : ℕ) → s < m.subsets → anchor_in m part s < 16

-- of a subset's anchor
abbrev anchor_test : Mode → ℕ → ℕ → Bool
anchor_test m part s = and (eqb (subset_in m part (anchor_in m part s)) s) (ltb (anchor_in m part s) 16)

-- of a partition
abbrev part_test : Mode → ℕ → Bool
part_test m part = and (eqb (sum (widths m part)) 128) (all (anchor_test m part) (up_from 0 m.subsets))

-- of a mode
abbrev tests : Mode → List Bool
tests m =
    ltb m.number 8
    ∷ ltb 0 m.subsets
    ∷ leb (endpoints m) places
    ∷ ltb 0 m.index_bits
    ∷ all (part_test m) (up_from 0 (2 ^ m.partition_bits))
    ∷ []

lawful_by : (m : Mode) → Shades m → T (all_true (tests m)) → Lawful m
lawful_by m shades t =
    let holds : (i : ℕ) → T (get_or (tests m) i true) = each-true (tests m) t in
    let part : (q : ℕ) → q < 2 ^ m.partition_bits → T (part_test m q) = tested (part_test m) (2 ^ m.partition_bits) (holds 4) in
    let anchor : (q : ℕ) → q < 2 ^ m.partition_bits → (s : ℕ) → s < m.subsets → T (anchor_test m q s) =
    λ q h. tested (anchor_test m q) m.subsets (and_right (eqb (sum (widths m q)) 128) _ (part q h)) in
    record {
      shades = shades;
      low = ltb→lt _ _ (holds 0);
      some = ltb→lt _ _ (holds 1);
      few = leb→le _ _ (holds 2);
      bits = ltb→lt _ _ (holds 3);
      whole = λ q h. eqb→eq _ _ (and_left (eqb (sum (widths m q)) 128) _ (part q h));
      placed = λ q h s l. eqb→eq _ _ (and_left (eqb (subset_in m q (anchor_in m q s)) s) _ (anchor q h s l));
      inside = λ q h s l. ltb→lt _ _ (and_right (eqb (subset_in m q (anchor_in m q s)) s) _ (anchor q h s l));
    }

-- mode 1
lawful1 : Lawful mode1
unfolding masks anchors table digits_of subset_of anchor_of index_width widths
lawful1 = lawful_by mode1 shades1 tt

-- mode 3
lawful3 : Lawful mode3
unfolding masks anchors table digits_of subset_of anchor_of index_width widths
lawful3 = lawful_by mode3 shades3 tt

-- either mode
pub lawful_of : (m : Mode) → IsMode m → Lawful m
lawful_of = by_mode Lawful lawful1 lawful3

-- the mode of every number
pub lawful : (n : ℕ) → Lawful (mode_numbered n)
lawful = each_mode Lawful lawful1 lawful3

-- every subset is below their number, whatever the partition
pub subset-below : (m : Mode) → Lawful m → (part i : ℕ) → subset_in m part i < m.subsets
unfolding subset_of
subset-below m law part i = mod-lt _ law.some

-- pixel 0 is the anchor of subset 0
pub first-anchor : (m : Mode) (part : ℕ) → anchor_in m part 0 ≡ 0
unfolding anchor_of
first-anchor m part = refl

-- the limits of a mode's record
abbrev pub limits_of : Mode → Limits
limits_of m =
    record {
      mode = m.number;
      partitions = 2 ^ m.partition_bits;
      ends = endpoints m;
      channels = m.channels;
      channel = 2 ^ m.channel_bits;
      bits = 2 ^ p_bits m;
      index = 2 ^ m.index_bits;
    }

-- are the specification's
pub limits_agree : map limits_of modes ≡ limits
limits_agree = refl
