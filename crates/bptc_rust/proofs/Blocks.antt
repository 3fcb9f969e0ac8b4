-- Compressed::mode1 and Compressed::mode3 give the block that `packed` makes of the compressed fields, by one proof.
use Prim.Native.Nat.{ℕ, ◌-◌, ◌*◌}
use native.Mathlib.Omega.{arith}
use mathlib.Core.Path.{◌≡◌, refl, sym, ap, ap₂, ◌∙◌}
use mathlib.Core.Bool.{Bool, true, false}
use mathlib.Core.List.{List, [], ◌∷◌, map}
use lib.Dec.{eqb}
use lib.ListN.{length}
use borrow.Author.Tests.{eqb-true, eqb-false}
use Rattle.lists.specs.Tests.{pick}
use Rattle.lists.specs.Bytes.{bytes}
use Rattle.lists.proofs.Bytes.{bytes-listed}
use Rattle.bptc.specs.declared.Rgb.{Rgb}
use Rattle.bptc.specs.Mode.{Mode, mode1, mode3, p_bits, IsMode}
use Rattle.bptc.specs.Colour.{without_alpha}
use Rattle.bptc.specs.Internal.Colour.{black}
use Rattle.bptc.proofs.Colours.{without-length}
use Rattle.bptc.proofs.Modes.{is_mode1, is_mode3}
use Rattle.bptc_block.specs.declared.Fields.{Fields}
use Rattle.bptc_block.specs.Fields.{BlockFields, block_fields, Plain, channel_values}
use Rattle.bptc_block.specs.Packed.{packed}
use Rattle.bptc_block.specs.Exchange.{swaps, compressed}
use Rattle.bptc_block.specs.Compressed.{Compressed}
use Rattle.bptc_block.proofs.Modes.{Lawful, lawful_of}
use Rattle.bptc_rust.specs.Colour.{as_u8}
use Rattle.bptc_rust.specs.Subset2Map.{PARTITION-SET-2}
use Rattle.bptc_rust.specs.CompressedIndexList.{compress_p2}
use Rattle.bptc_rust.specs.BitStream.{BitStream, new, write_mode, write_u64, write_endpoints_rgb, write_endpoints_p, write_indexes, finish}
use Rattle.bptc_rust.specs.Compressed as Rust
use Rattle.bptc_rust.specs.Internal.Swaps.{swap_pairs}
use Rattle.bptc_rust.proofs.Digits.{digits, one_shl}
use Rattle.bptc_rust.proofs.Order.{Ordered, ordered_of}
use Rattle.bptc_rust.proofs.Masks.{Double, double_of}
use Rattle.bptc_rust.proofs.Compressing.{index_number}
use Rattle.bptc_rust.proofs.Doubles.{swaps_two, compress_two}
use Rattle.bptc_rust.proofs.Stream.{stream, block_writes}
use Rattle.bptc_rust.proofs.Swaps.{p_number, bits_of, bits_listed, map_pairs, pairs_length, rgb_swapped, swapped-bits, kept-bits}
use Rattle.bptc_rust.proofs.Written.{stream_block}

-- p-bits after the swaps: two of a subset go with their endpoints, and one stays
abbrev own_pairs : Mode → List Bool → List Bool → List Bool
own_pairs m ts ps = pick (eqb m.own_bits 2) (swap_pairs false ts 0 ps) ps

-- the steps of both functions, over a mode of two subsets in three channels
abbrev steps : Mode → ℕ → ℕ → List Rgb → List Bool → ℕ → Compressed
steps m error part rgb ps n =
    let (indexes, swap0, swap1) = compress_p2 m.index_bits n (PARTITION-SET-2 part) in
    let ts : List Bool = swap0 ∷ (swap1 ∷ []) in
    let s1 : BitStream = write_u64 (write_mode new m.number) part m.partition_bits in
    let s2 : BitStream = write_endpoints_rgb m.channel_bits s1 (swap_pairs black ts 0 rgb) in
    record { block = finish (write_indexes (write_endpoints_p s2 (own_pairs m ts ps)) indexes); error = error }

module _ (m : Mode) (known : IsMode m) (f : Fields) (plain : Plain m (block_fields f)) (ps : List Bool) (size : length ps ≡ p_bits m) (bits : f.p ≡ p_number ps) where
  -- the fields as the chapter has them
  abbrev g : BlockFields
  g = block_fields f

  law : Lawful m
  law = lawful_of m known

  order : Ordered m
  order = ordered_of m known

  double : Double m
  double = double_of m known

  -- the swaps
  abbrev ts : List Bool
  ts = swaps m g 0 ∷ (swaps m g 1 ∷ [])

  -- the number of the indexes
  abbrev n : ℕ
  n = index_number m law order g plain

  four : length f.ends ≡ 4
  four = sym (without-length f.ends) ∙ plain.room

  channels_same : channel_values m (without_alpha (swap_pairs black ts 0 f.ends)) ≡ channel_values m (compressed m g).ends
  channels_same = ap (λ (l : List Bool). channel_values m (without_alpha (swap_pairs black l 0 f.ends))) (sym (swaps_two m double g)) ∙ rgb_swapped m law f plain

  own_length : (b : Bool) → length (pick b (swap_pairs false ts 0 ps) ps) ≡ p_bits m
  own_length true = pairs_length false ts 0 ps ∙ size
  own_length false = size

  listed : map as_u8 ps ≡ bits_of m f.p
  listed = sym (ap (bits_of m) bits ∙ bits_listed m ps size)

  own_same : (b : Bool) → eqb m.own_bits 2 ≡ b → map as_u8 (pick b (swap_pairs false ts 0 ps) ps) ≡ bits_of m (compressed m g).p
  own_same true e =
      map_pairs as_u8 false ts 0 ps
      ∙ ap₂ (λ (l : List Bool) (xs : List ℕ). swap_pairs 0 l 0 xs) (sym (swaps_two m double g)) listed
      ∙ swapped-bits m law (eqb-true m.own_bits 2 e) g
  own_same false e = listed ∙ ap (bits_of m) (sym (kept-bits m (eqb-false m.own_bits 2 e) g plain))

  written : finish (stream m f.partition (swap_pairs black ts 0 f.ends) (own_pairs m ts ps) n (16 * m.index_bits - 2)) ≡ packed m (compressed m g)
  written =
      let es : List Rgb = swap_pairs black ts 0 f.ends in
      let qs : List Bool = own_pairs m ts ps in
      bytes-listed 16 (stream m f.partition es qs n (16 * m.index_bits - 2)).«data»
      ∙ ap (λ (k : ℕ). bytes 16 (stream m f.partition es qs n (16 * m.index_bits - k)).«data») (sym double.two)
      ∙ ap (λ (s : BitStream). bytes 16 s.«data»)
      (block_writes m known f.partition es qs n (16 * m.index_bits - m.subsets) (pairs_length black ts 0 f.ends ∙ four) (own_length (eqb m.own_bits 2)))
      ∙ stream_block m law order g plain _ _ channels_same (own_same (eqb m.own_bits 2) refl)

  -- they make the packed block
  pub steps_packed : (error : ℕ) → steps m error f.partition f.ends ps (digits m.index_bits f.indices) ≡ record { block = packed m (compressed m g); error = error }
  steps_packed error =
      rw (compress_two m law order double g plain, one_shl 64 m.number (omega (arith, law.low)))
      (ap (λ (b : List ℕ). record { block = b; error = error }) written)

module _ (f : Fields) (error : ℕ) (ps : List Bool) (bits : f.p ≡ p_number ps) where
  -- mode 1
  pub pack1 : Plain mode1 (block_fields f) → length ps ≡ 2 →
      Rust.mode1 error f.partition f.ends ps (digits 3 f.indices) ≡ record { block = packed mode1 (compressed mode1 (block_fields f)); error = error }
  unfolding Rust.mode1 swap_pairs
  pack1 plain size = steps_packed mode1 is_mode1 f plain ps size bits error

  -- mode 3
  pub pack3 : Plain mode3 (block_fields f) → length ps ≡ 4 →
      Rust.mode3 error f.partition f.ends ps (digits 2 f.indices) ≡ record { block = packed mode3 (compressed mode3 (block_fields f)); error = error }
  unfolding Rust.mode3 swap_pairs
  pack3 plain size = steps_packed mode3 is_mode3 f plain ps size bits error
