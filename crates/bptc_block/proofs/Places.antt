-- Laws of a block's places: where each field begins, what is read there, and what a writer adds there.
use Prim.Native.Nat.{ℕ, zero, suc, ◌+◌, ◌*◌, ◌^◌, ◌≤◌, ◌<◌}
use native.Mathlib.Nat.{add-suc, add_assoc, zero-mul, suc-mul}
use native.Mathlib.Numerals.{add-one}
use native.Mathlib.Omega.{arith}
use mathlib.Core.Path.{◌≡◌, refl, sym, ap, ◌∙◌}
use mathlib.Core.Bool.{Bool, true, false}
use mathlib.Core.List.{List, map}
use lib.Dec.{ltb}
use lib.ListN.{get_or, take, drop}
use lib.Seq.{get_or-drop}
use borrow.Author.Tests.{ltb-true}
use Rattle.lists.specs.Tests.{pick, and}
use Rattle.lists.specs.Rows.{up_from, sum}
use Rattle.lists.proofs.Rows.{each_same}
use Rattle.lists.specs.Bits.{split}
use Rattle.lists.specs.Internal.Fields.{field_at}
use Rattle.lists.specs.Bytes.{number}
use Rattle.lists.proofs.Bits.{field, next_place, sum-take_le}
use Rattle.bptc.specs.Colour.{Rgba}
use Rattle.bptc_block.specs.Fields.{BlockFields, places}
use Rattle.bptc.specs.Mode.{Mode, endpoints, p_bits}
use Rattle.bptc.specs.Colour.{colour_by}
use Rattle.bptc_block.specs.Fields.{index_width, stores, widths, value_at, made}
use Rattle.bptc_block.specs.Internal.Places.{front_bits, end_from}
use Rattle.bptc_block.specs.Packed.{partition_in, fields_of}
use Rattle.bptc.proofs.Colours.{by_same}
use Rattle.bptc_block.proofs.Modes.{Lawful}
use Rattle.bptc_block.proofs.Widths.{place_lt, channel_width, bits_width, width_at}
use Rattle.bptc_block.proofs.Packed.{partition_of_lem}

module _ (m : Mode) (law : Lawful m) (part : ℕ) where
  front_place : sum (take 2 (widths m part)) ≡ front_bits m
  unfolding widths
  front_place = omega arith

  -- where a channel begins
  pub channel-place : (x : ℕ) → x ≤ stores m → sum (take (2 + x) (widths m part)) ≡ front_bits m + x * m.channel_bits
  channel-place zero h = omega (arith, front_place, zero-mul m.channel_bits)
  channel-place (suc x) h =
      rw (add-suc 2 x, suc-mul)
      (omega (arith, next_place (widths m part) (2 + x), channel_width m law part x (omega arith), channel-place x (omega arith)))

  -- the first index follows the p-bits
  pub first-index : sum (take (3 + stores m) (widths m part)) ≡ front_bits m + stores m * m.channel_bits + p_bits m
  first-index =
      let e : 3 + stores m ≡ suc (2 + stores m) = omega arith in
      rw e (omega (arith, next_place (widths m part) (2 + stores m), bits_width m law part, channel-place (stores m) (omega arith)))

  -- the next index
  pub next-index : (i : ℕ) → i < 16 → sum (take (3 + stores m + (i + 1)) (widths m part)) ≡ sum (take (3 + stores m + i) (widths m part)) + index_width m part i
  next-index i h = rw (← add_assoc (3 + stores m) i 1, add-one, ← width_at m law part i h) (next_place (widths m part) (3 + stores m + i))

  -- no field begins past the end
  pub place_inside : (k : ℕ) → part < 2 ^ m.partition_bits → sum (take k (widths m part)) ≤ 128
  place_inside k h = omega (arith, sum-take_le (widths m part) k, law.whole part h)

  module _ (n : ℕ) where
    channel-at : (x : ℕ) → x < stores m → get_or (split (widths m part) n) (2 + x) 0 ≡ field_at n (front_bits m + x * m.channel_bits) m.channel_bits
    channel-at x h = rw (field (widths m part) n (2 + x), channel-place x (omega arith), channel_width m law part x h)

    -- an endpoint
    pub end_at_lem : (k : ℕ) → colour_by (value_at m (split (widths m part) n) k) ≡ end_from m n k
    unfolding value_at end_from
    end_at_lem k = by_same _ _ (λ j l. go j (ltb k (endpoints m)) refl (ltb j m.channels) refl)
      where
        go : (j : ℕ) (t : Bool) → ltb k (endpoints m) ≡ t → (u : Bool) → ltb j m.channels ≡ u →
            pick (and t u) (get_or (split (widths m part) n) (2 + (j * endpoints m + k)) 0) 0
            ≡ pick (and t u) (field_at n (front_bits m + (j * endpoints m + k) * m.channel_bits) m.channel_bits) 0
        go j true e true d = channel-at (j * endpoints m + k) (place_lt m law j k (ltb-true j _ d) (ltb-true k _ e))
        go j true e false d = refl
        go j false e u d = refl

    -- the p-bits
    pub bits_at : get_or (split (widths m part) n) (2 + stores m) 0 ≡ field_at n (front_bits m + stores m * m.channel_bits) (p_bits m)
    bits_at = rw (field (widths m part) n (2 + stores m), channel-place (stores m) (omega arith), bits_width m law part)

    -- the index of pixel i
    pub index_at : (i : ℕ) → i < 16 → get_or (drop (3 + stores m) (split (widths m part) n)) i 0 ≡ field_at n (sum (take (3 + stores m + i) (widths m part))) (index_width m part i)
    index_at i h = rw (get_or-drop (3 + stores m) (split (widths m part) n) i 0, field (widths m part) n (3 + stores m + i), width_at m law part i h)

-- what is read at these places makes the fields of a block
pub fields_read_lem : (m : Mode) (law : Lawful m) (block : List ℕ) {part p : ℕ} {ends : List Rgba} {is : List ℕ} → part ≡ field_at (number block) (m.number + 1) m.partition_bits →
    ends ≡ map (end_from m (number block)) (up_from 0 places) → p ≡ field_at (number block) (front_bits m + stores m * m.channel_bits) (p_bits m) →
    is ≡ drop (3 + stores m) (split (widths m part) (number block)) →
    ◌≡◌ {A = BlockFields} (record { partition = part; ends = ends; p = p; indices = is }) (fields_of m block)
unfolding fields_of made partition_in
fields_read_lem m law block {part} {p} {ends} {is} partition end bits indices =
    let n : ℕ = number block in
    let same : part ≡ partition_in m n = partition in
    let es : ends ≡ map (λ (k : ℕ). colour_by (value_at m (split (widths m (partition_in m n)) n) k)) (up_from 0 places) =
    end ∙ each_same (record { r = 0; g = 0; b = 0; a = 0 }) _ _ places (λ k h. sym (end_at_lem m law (partition_in m n) n k)) in
    λ t.
    record {
      partition = (same ∙ sym (partition_of_lem m block)) t;
      ends = es t;
      p = (bits ∙ sym (bits_at m law (partition_in m n) n)) t;
      indices = (indices ∙ ap (λ (q : ℕ). drop (3 + stores m) (split (widths m q) n)) same) t;
    }
