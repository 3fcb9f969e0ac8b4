-- compress_p2 is the steps of any number of subsets, for two: it gives the number of the compressed fields' indexes, and swaps the subsets
-- that `compressed` swaps.
use Prim.Native.Nat.{ℕ, ◌-◌, ◌*◌, ◌<◌}
use mathlib.Core.Path.{◌≡◌, refl, sym, ap, ap₂, ◌∙◌, subst}
use mathlib.Core.Bool.{Bool, false}
use mathlib.Core.List.{List, [], ◌∷◌, map}
use lib.Bits.{bit_xor}
use lib.ListN.{get_or}
use Rattle.lists.specs.Rows.{up_from}
use Rattle.bptc.specs.Mode.{Mode}
use Rattle.bptc.specs.Partition.{anchor_of, anchor_in}
use Rattle.bptc.specs.Internal.Masks.{ones_of}
use Rattle.bptc_block.specs.Fields.{BlockFields, Plain}
use Rattle.bptc_block.specs.Exchange.{swaps}
use Rattle.bptc_block.proofs.Modes.{Lawful, first-anchor}
use Rattle.bptc_rust.specs.Subset2Map.{PARTITION-SET-2}
use Rattle.bptc_rust.specs.IndexList.{INDEXES-MASK}
use Rattle.bptc_rust.specs.CompressedIndexList.{ensure_msb_zero, compress_single_index, compress_p2}
use Rattle.bptc_rust.specs.Internal.Indexes.{bits_out, subset_mask, flip_from, flips_from, compress_indexes}
use Rattle.bptc_rust.proofs.Table.{map_of, map_same}
use Rattle.bptc_rust.proofs.Digits.{digits}
use Rattle.bptc_rust.proofs.Masks.{Double, ones_repeated, anchor_second, fixups_two}
use Rattle.bptc_rust.proofs.Order.{Ordered}
use Rattle.bptc_rust.proofs.Compressing.{index_number, indexes_compressed, flips_swaps}

-- compress_p2 step by step
module _ (m : Mode) (q : Double m) (self part : ℕ) (inside : part < 64) {mask anchor e₀ e₁ x y : ℕ} {t u : Bool} where
  -- the steps of a program that follows it, with a table's mask and anchor
  pub p2_steps : mask ≡ ones_of m.index_bits part → anchor ≡ anchor_of 2 part 1 →
      e₀ ≡ (ensure_msb_zero m.index_bits self 0 (bit_xor mask (INDEXES-MASK m.index_bits))).0 → t ≡ (ensure_msb_zero m.index_bits self 0 (bit_xor mask (INDEXES-MASK m.index_bits))).1 →
      e₁ ≡ (ensure_msb_zero m.index_bits e₀ anchor mask).0 → u ≡ (ensure_msb_zero m.index_bits e₀ anchor mask).1 →
      x ≡ compress_single_index m.index_bits e₁ anchor → y ≡ compress_single_index m.index_bits x 0 →
      (y ≡ (compress_p2 m.index_bits self (PARTITION-SET-2 part)).0.compressed_indexes)
      × ((t ≡ (compress_p2 m.index_bits self (PARTITION-SET-2 part)).1) × (u ≡ (compress_p2 m.index_bits self (PARTITION-SET-2 part)).2))
  unfolding compress_p2 map_of
  p2_steps ones place a b c d f g =
      let m = ones ∙ ones_repeated m q part inside in
      rw (map_same part inside) (rw (g, f, c, a, m, place) refl, (rw (b, m) refl, rw (d, a, m, place) refl))

-- the swaps of two subsets
pub swaps_two : (m : Mode) → Double m → (f : BlockFields) → map (swaps m f) (up_from 0 m.subsets) ≡ swaps m f 0 ∷ (swaps m f 1 ∷ [])
swaps_two m q f = ap (λ (k : ℕ). map (swaps m f) (up_from 0 k)) q.two

module _ (m : Mode) (law : Lawful m) (order : Ordered m) (q : Double m) (f : BlockFields) (plain : Plain m f) where
  -- the bits of an index
  abbrev w : ℕ
  w = m.index_bits

  -- the indexes as the Rust holds them
  abbrev n : ℕ
  n = digits w f.indices

  -- one step: subset s flipped
  abbrev step : ℕ → ℕ → ℕ × Bool
  step s k = ensure_msb_zero w k (anchor_in m f.partition s) (subset_mask m f.partition s)

  swap_list : (step 0 n).1 ∷ ((step 1 (step 0 n).0).1 ∷ []) ≡ swaps m f 0 ∷ (swaps m f 1 ∷ [])
  unfolding flips_from
  swap_list = subst (λ (k : ℕ). flips_from m f.partition k 0 n ≡ map (swaps m f) (up_from 0 k)) q.two (flips_swaps m law order f plain)

  number_list : compress_single_index w (compress_single_index w (step 1 (step 0 n).0).0 (anchor_in m f.partition 1)) 0 ≡ index_number m law order f plain
  unfolding compress_indexes bits_out flip_from
  number_list =
      sym (ap₂ (λ (l : List ℕ) (k : ℕ). bits_out w l (flip_from m f.partition k 0 n)) (fixups_two m q f.partition) q.two) ∙ indexes_compressed m law order f plain

  -- compress_p2
  pub compress_two : compress_p2 w n (PARTITION-SET-2 f.partition) ≡ (record { compressed_indexes = index_number m law order f plain; bits = 16 * w - 2 }, swaps m f 0, swaps m f 1)
  unfolding compress_p2 map_of
  compress_two =
      let part : ℕ = f.partition in
      let inside : part < 64 = rw q.parts at plain.partition in
      let first : ensure_msb_zero w n 0 (subset_mask m part 0) ≡ step 0 n = ap (λ (a : ℕ). ensure_msb_zero w n a (subset_mask m part 0)) (sym (first-anchor m part)) in
      rw (map_same part inside, q.second part inside, q.first part inside, anchor_second m q part, first)
      (λ i. (
        record { compressed_indexes = number_list i; bits = 16 * w - 2 },
        ap (λ (l : List Bool). get_or l 0 false) swap_list i,
        ap (λ (l : List Bool). get_or l 1 false) swap_list i,
      ))
