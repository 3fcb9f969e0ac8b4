-- The rule of the partition table, by one test over the whole table.
use Prim.Native.Nat.{ℕ, ◌*◌, ◌/◌, ◌%◌, ◌^◌, ◌<◌}
use native.Mathlib.Omega.{arith}
use mathlib.Core.Path.{◌≡◌}
use mathlib.Core.Bool.{Bool, true}
use mathlib.Core.List.{List, [], ◌∷◌, map}
use lib.Dec.{T, eqb, ltb, eqb→eq, ltb→lt}
use lib.ListN.{get_or}
use lib.Arith.{digits_div, digits_mod}
use lib.Pow.{pow_pos}
use Rattle.lists.specs.Rows.{up_from}
use Rattle.lists.specs.Internal.Ones.{ones_below}
use Rattle.lists.proofs.Tests.{pick_elim}
use Rattle.lists.proofs.Rows.{get_or-each}
use Rattle.lists.proofs.Bits.{fits-same, join_lt, sum-replicate}
use Rattle.lists.proofs.Tables.{tested, all_true, each-true}
use Rattle.bptc.specs.Partition.{masks, anchors, table, digits_of, subset_of, anchor_of}
use Rattle.bptc.specs.Internal.Masks.{mask_of, size_of, ones_at, ones_of, entry_of}

-- Pixel 0 lies in subset 0, and the anchor, another pixel, in subset 1, which has from 3 to 13 pixels.
pub record Placed (part : ℕ) : Type 0 where
  pub mask : mask_of part < 2 ^ 16
  pub first : subset_of 2 part 0 ≡ 0
  pub anchor : subset_of 2 part (anchor_of 2 part 1) ≡ 1
  pub inside : anchor_of 2 part 1 < 16
  pub apart : 0 < anchor_of 2 part 1
  pub some : 2 < size_of part
  pub few : size_of part < 14

-- the tests of a partition, one for each field
abbrev tests : ℕ → List Bool
tests p =
    ltb (mask_of p) (2 ^ 16)
    ∷ eqb (subset_of 2 p 0) 0
    ∷ eqb (subset_of 2 p (anchor_of 2 p 1)) 1
    ∷ ltb (anchor_of 2 p 1) 16
    ∷ ltb 0 (anchor_of 2 p 1)
    ∷ ltb 2 (size_of p)
    ∷ ltb (size_of p) 14
    ∷ []

-- every partition
pub placed : (part : ℕ) → part < 64 → Placed part
unfolding subset_of anchor_of digits_of size_of table masks anchors ones_below
placed part h =
    let holds : (i : ℕ) → T (get_or (tests part) i true) = each-true (tests part) (tested (λ (p : ℕ). all_true (tests p)) 64 tt part h) in
    record {
      mask = ltb→lt _ _ (holds 0);
      first = eqb→eq _ _ (holds 1);
      anchor = eqb→eq _ _ (holds 2);
      inside = ltb→lt _ _ (holds 3);
      apart = ltb→lt _ _ (holds 4);
      some = ltb→lt _ _ (holds 5);
      few = ltb→lt _ _ (holds 6);
    }

-- there are two subsets
pub subset_two : (part i : ℕ) → subset_of 2 part i < 2
unfolding subset_of
subset_two part i = omega arith

-- the bits of subset 1's indices are bits of sixteen indices
ones_small : (bits part : ℕ) → ones_of bits part < 2 ^ (16 * bits)
unfolding ones_of
ones_small bits part = rw sum-replicate at (join_lt (fits-same bits (map (ones_at bits part) (up_from 0 16)) (λ i l. rw (get_or-each 0 (ones_at bits part) 16 i l) (ones_at_lem i))))
  where
    ones_at_lem : (i : ℕ) → ones_at bits part i < 2 ^ bits
    ones_at_lem i = pick_elim (λ (n : ℕ). n < 2 ^ bits) (eqb (subset_of 2 part i) 1) (λ t. omega (arith, pow_pos bits)) (λ t. pow_pos bits)

-- they are the low part of the table's entry
pub entry_ones : (bits part : ℕ) → entry_of bits part % 2 ^ (16 * bits) ≡ ones_of bits part
unfolding entry_of
entry_ones bits part = digits_mod (anchor_of 2 part 1) (ones_small bits part)

-- and the anchor the rest
pub entry-anchor : (bits part : ℕ) → entry_of bits part / 2 ^ (16 * bits) ≡ anchor_of 2 part 1
unfolding entry_of
entry-anchor bits part = digits_div (anchor_of 2 part 1) (ones_small bits part)
