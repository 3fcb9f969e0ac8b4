-- What is read in three channels, of two subsets, is what the block's fields have.
use Prim.Native.Nat.{ℕ, zero, suc, ◌+◌, ◌-◌, ◌*◌, ◌≤◌, ◌<◌}
use native.Mathlib.Omega.{arith}
use mathlib.Core.Path.{◌≡◌, refl, sym, ap, ◌∙◌}
use mathlib.Core.Bool.{Bool, true, false}
use mathlib.Core.List.{List, map}
use lib.Dec.{eqb}
use lib.ListN.{length, get_or, take, drop, length-drop}
use borrow.Author.Tests.{eqb-true}
use Rattle.lists.specs.Tests.{pick}
use Rattle.lists.specs.Rows.{up_from, sum}
use Rattle.lists.specs.Bits.{split}
use Rattle.lists.specs.Internal.Fields.{field_at}
use Rattle.lists.specs.Bytes.{number}
use Rattle.lists.proofs.Rows.{each_same}
use Rattle.lists.proofs.Bits.{fits-length, fits-split}
use Rattle.bptc.specs.declared.Rgb.{Rgb}
use Rattle.bptc.specs.Mode.{Mode, mode1, mode3, IsMode, p_bits}
use Rattle.bptc.specs.Partition.{subset_of, anchor_of}
use Rattle.bptc.specs.Colour.{rgb_of}
use Rattle.bptc.specs.Internal.Colour.{black}
use Rattle.bptc.proofs.Modes.{by_mode}
use Rattle.bptc.proofs.PartitionRule.{Placed, placed, subset_two}
use Rattle.bptc_block.specs.declared.Fields.{Fields}
use Rattle.bptc_block.specs.Fields.{rgb_fields, stores, index_width, widths}
use Rattle.bptc_block.specs.Packed.{fields_of}
use Rattle.bptc_block.specs.Internal.Front.{index_width_by, rgb_from}
use Rattle.bptc_block.specs.Internal.Places.{front_bits, end_from}
use Rattle.bptc_block.proofs.Modes.{lawful_of}
use Rattle.bptc_block.proofs.Widths.{length-widths}
use Rattle.bptc_block.proofs.Places.{first-index, next-index, place_inside, index_at, fields_read_lem}

first_anchor : (part : ℕ) → anchor_of 2 part 0 ≡ 0
unfolding anchor_of
first_anchor part = refl

-- the width of an index, by the anchor of subset 1
pub width_of : (m : Mode) → IsMode m → (part : ℕ) → part < 64 → (i : ℕ) → index_width_by m.index_bits (anchor_of 2 part 1) i ≡ index_width m part i
unfolding index_width
width_of m known part h i = by_mode (λ (m : Mode). index_width_by m.index_bits (anchor_of 2 part 1) i ≡ index_width m part i) (at 3 _ refl (subset_two part i)) (at 2 _ refl (subset_two part i)) m known
  where
    rule : Placed part
    rule = placed part h

    -- subset 0 has pixel 0 for its anchor, and the anchor of subset 1 is none of its pixels
    at : (bits s : ℕ) → subset_of 2 part i ≡ s → s < 2 → index_width_by bits (anchor_of 2 part 1) i ≡ pick (eqb i (anchor_of 2 part s)) (bits - 1) bits
    at bits zero e two = rw (first_anchor part) (go (eqb i (anchor_of 2 part 1)) refl)
      where
        go : (t : Bool) → eqb i (anchor_of 2 part 1) ≡ t → pick (eqb i 0) (bits - 1) (pick t (bits - 1) bits) ≡ pick (eqb i 0) (bits - 1) bits
        go true f = absurd (omega (arith, e, rule.anchor, ap (subset_of 2 part) (eqb-true i (anchor_of 2 part 1) f)))
        go false f = refl
    at bits (suc zero) e two = go (eqb i 0) refl
      where
        go : (t : Bool) → eqb i 0 ≡ t → pick t (bits - 1) (pick (eqb i (anchor_of 2 part 1)) (bits - 1) bits) ≡ pick (eqb i (anchor_of 2 part 1)) (bits - 1) bits
        go true f = absurd (omega (arith, e, rule.first, ap (subset_of 2 part) (eqb-true i 0 f)))
        go false f = refl
    at bits (suc (suc s)) e two = absurd (omega arith)

module _ (m : Mode) (known : IsMode m) where
  -- twelve channels are stored
  twelve : 12 ≡ stores m
  twelve = by_mode (λ (m : Mode). 12 ≡ stores m) refl refl m known

  -- a partition has six bits
  six : 6 ≡ m.partition_bits
  six = by_mode (λ (m : Mode). 6 ≡ m.partition_bits) refl refl m known

  -- the place after the channels
  after_channels : m.number + 7 + 12 * m.channel_bits ≡ front_bits m + stores m * m.channel_bits
  after_channels = rw (← six, ← twelve) (omega arith)

  module _ (part : ℕ) where
    -- where the first index begins
    pub first_index_place : sum (take 15 (widths m part)) ≡ m.number + 7 + 12 * m.channel_bits + p_bits m
    first_index_place = rw (after_channels, ← first-index m (lawful_of m known) part) (ap (λ (k : ℕ). sum (take (3 + k) (widths m part))) twelve)

    -- the next one
    pub next_index_place : (i : ℕ) → i < 16 → sum (take (15 + (i + 1)) (widths m part)) ≡ sum (take (15 + i) (widths m part)) + index_width m part i
    next_index_place i h = rw (← twelve) at (next-index m (lawful_of m known) part i h)

    -- no place is past the end
    pub places_inside : part < 64 → (k : ℕ) → sum (take k (widths m part)) ≤ 128
    places_inside h k = place_inside m (lawful_of m known) part k (rw (← six) h)

    -- the index of pixel i
    pub index_read : (n i : ℕ) → i < 16 → get_or (drop 15 (split (widths m part) n)) i 0 ≡ field_at n (sum (take (15 + i) (widths m part))) (index_width m part i)
    index_read n i h = rw (← twelve) at (index_at m (lawful_of m known) part n i h)

    -- sixteen of them
    pub indices_length : (n : ℕ) → length (drop 15 (split (widths m part) n)) ≡ 16
    indices_length n =
        let e : length (split (widths m part) n) ≡ 19 + 12 = rw (← twelve) at (fits-length (fits-split (widths m part) n) ∙ length-widths m (lawful_of m known) part) in
        rw (length-drop 15 (split (widths m part) n)) (omega (arith, e))

-- an endpoint in three channels
end_rgb_from : (m : Mode) → IsMode m → (n k : ℕ) → k < 4 → rgb_of (end_from m n k) ≡ rgb_from n (m.number + 7) m.channel_bits k
unfolding end_from
end_rgb_from m known n k h = by_mode (λ (m : Mode). rgb_of (end_from m n k) ≡ rgb_from n (m.number + 7) m.channel_bits k) (first k h) (third k h) m known
  where
    first : (k : ℕ) → k < 4 → rgb_of (end_from mode1 n k) ≡ rgb_from n 8 6 k
    first zero h = refl
    first (suc zero) h = refl
    first (suc (suc zero)) h = refl
    first (suc (suc (suc zero))) h = refl
    first (suc (suc (suc (suc k)))) h = absurd (omega arith)

    third : (k : ℕ) → k < 4 → rgb_of (end_from mode3 n k) ≡ rgb_from n 10 7 k
    third zero h = refl
    third (suc zero) h = refl
    third (suc (suc zero)) h = refl
    third (suc (suc (suc zero))) h = refl
    third (suc (suc (suc (suc k)))) h = absurd (omega arith)

-- the fields, each part by its place
pub rgb_read : (m : Mode) → IsMode m → (block : List ℕ) {part p : ℕ} {ends : List Rgb} {is : List ℕ} →
    part ≡ field_at (number block) (m.number + 1) 6 → ends ≡ map (rgb_from (number block) (m.number + 7) m.channel_bits) (up_from 0 4) →
    p ≡ field_at (number block) (m.number + 7 + 12 * m.channel_bits) (p_bits m) → is ≡ drop 15 (split (widths m part) (number block)) →
    ◌≡◌ {A = Fields} (record { partition = part; ends = ends; p = p; indices = is }) (rgb_fields (fields_of m block))
rgb_read m known block {part} {p} {ends} {is} partition end bits indices =
    let n : ℕ = number block in
    let es : ends ≡ map rgb_of (map (end_from m n) (up_from 0 4)) = end ∙ each_same black _ _ 4 (λ k h. sym (end_rgb_from m known n k h)) in
    ap (λ (es : List Rgb). record { partition = part; ends = es; p = p; indices = is }) es
    ∙ ap rgb_fields
    (fields_read_lem m (lawful_of m known) block (partition ∙ ap (field_at n (m.number + 1)) (six m known)) refl (bits ∙ ap (λ (at : ℕ). field_at n at (p_bits m)) (after_channels m known))
    (indices ∙ ap (λ (k : ℕ). drop (3 + k) (split (widths m part) n)) (twelve m known)))
