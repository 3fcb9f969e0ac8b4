-- A program that follows compress_p2, exchanges endpoints and p-bits and writes the fields makes the packed block.
use Prim.Native.Nat.{ℕ, ◌+◌, ◌-◌, ◌*◌, ◌/◌, ◌%◌, ◌^◌, ◌<◌}
use mathlib.Core.Path.{◌≡◌, refl, sym, ap, ap₂, ◌∙◌, subst}
use mathlib.Core.Bool.{Bool, true, false}
use mathlib.Core.List.{List, [], ◌∷◌, map}
use lib.Dec.{eqb, eqb→eq}
use lib.ListN.{length, get_or}
use Rattle.lists.specs.Tests.{pick}
use Rattle.lists.specs.Rows.{up_from}
use Rattle.lists.specs.Bits.{join}
use Rattle.lists.specs.Bytes.{bytes}
use Rattle.lists.proofs.Tables.{tested, two, of_four}
use Rattle.lists.proofs.Bits.{join_single}
use Rattle.bptc.specs.declared.Rgb.{Rgb}
use Rattle.bptc.specs.Mode.{Mode, mode1, mode3, endpoints, p_bits, IsMode}
use Rattle.bptc.specs.Shown.{own, joined_own}
use Rattle.bptc.specs.Colour.{without_alpha}
use Rattle.bptc.specs.Internal.Colour.{black}
use Rattle.bptc.specs.Internal.Shown.{Stored}
use Rattle.bptc.proofs.Colours.{without-length}
use Rattle.bptc.proofs.Modes.{by_mode}
use Rattle.bptc_block.specs.declared.Fields.{Fields}
use Rattle.bptc_block.specs.Fields.{BlockFields, block_fields, Plain, WellFormed, channel_values}
use Rattle.bptc_block.specs.Packed.{packed}
use Rattle.bptc_block.specs.Exchange.{swaps, swapped_own, swapped_by, compressed}
use Rattle.bptc_block.specs.Internal.Front.{front_widths, front_values}
use Rattle.bptc_block.specs.Internal.Swaps.{swapped_ends, swapped_bits, exchanged_both}
use Rattle.bptc_block.proofs.Modes.{Lawful, lawful_of}
use Rattle.bptc_block.proofs.Widths.{channel-value}
use Rattle.bptc_block.proofs.Exchanging.{compressed_formed}
use Rattle.bptc_block.proofs.Front.{front_widths_same, front_values_same}
use Rattle.bptc_block.proofs.OwnBits.{joined_same}
use Rattle.bptc_block.proofs.Stored.{stored_rgb}
use Rattle.bptc_rust.specs.IndexList.{index_list}
use Rattle.bptc_rust.specs.CompressedIndexList.{compress_p2}
use Rattle.bptc_rust.specs.Subset2Map.{PARTITION-SET-2}
use Rattle.bptc_rust.specs.Internal.Swaps.{swap_pairs}
use Rattle.bptc_rust.proofs.Digits.{list_digits}
use Rattle.bptc_rust.proofs.Order.{Ordered, ordered_of}
use Rattle.bptc_rust.proofs.Masks.{Double, double_of}
use Rattle.bptc_rust.proofs.Compressing.{plain_small, index_number, number_small}
use Rattle.bptc_rust.proofs.Doubles.{swaps_two, compress_two}
use Rattle.bptc_rust.proofs.Swaps.{rgb_swapped}
use Rattle.bptc_rust.proofs.Written.{number_same}

-- four endpoints swapped as the code has it
ends_swapped : (t u : Bool) (ends : List Rgb) → length ends ≡ 4 → swapped_ends ends t u ≡ swap_pairs black (t ∷ (u ∷ [])) 0 ends
unfolding swap_pairs
ends_swapped true true = of_four _ (λ (a b c d : Rgb). refl)
ends_swapped true false = of_four _ (λ (a b c d : Rgb). refl)
ends_swapped false true = of_four _ (λ (a b c d : Rgb). refl)
ends_swapped false false = of_four _ (λ (a b c d : Rgb). refl)

-- p-bits of both subsets, taken apart and swapped
abbrev both_bits : Mode → Bool → Bool → ℕ → ℕ
both_bits m t u p = pick (eqb (p_bits m) 4) (swapped_bits t (p % 4) + swapped_bits u (p / 4 % 4) * 4) p

-- the test of a mode's
abbrev both_test : Mode → Bool → Bool → ℕ → Bool
both_test m t u p = eqb (both_bits m t u p) (exchanged_both m t u p)

bits_1 : (t u : Bool) (p : ℕ) → p < 4 → both_bits mode1 t u p ≡ exchanged_both mode1 t u p
unfolding joined_own swapped_own own join
bits_1 true true p h = eqb→eq _ _ (tested (both_test mode1 true true) 4 tt p h)
bits_1 true false p h = eqb→eq _ _ (tested (both_test mode1 true false) 4 tt p h)
bits_1 false true p h = eqb→eq _ _ (tested (both_test mode1 false true) 4 tt p h)
bits_1 false false p h = eqb→eq _ _ (tested (both_test mode1 false false) 4 tt p h)

bits_3 : (t u : Bool) (p : ℕ) → p < 16 → both_bits mode3 t u p ≡ exchanged_both mode3 t u p
unfolding joined_own swapped_own own join
bits_3 true true p h = eqb→eq _ _ (tested (both_test mode3 true true) 16 tt p h)
bits_3 true false p h = eqb→eq _ _ (tested (both_test mode3 true false) 16 tt p h)
bits_3 false true p h = eqb→eq _ _ (tested (both_test mode3 false true) 16 tt p h)
bits_3 false false p h = eqb→eq _ _ (tested (both_test mode3 false false) 16 tt p h)

-- four p-bits are exchanged two by two, and two stay
pub bits-exchanged : (m : Mode) → IsMode m → (t u : Bool) (p : ℕ) → p < 2 ^ p_bits m →
    pick (eqb (p_bits m) 4) (swapped_bits t (p % 4) + swapped_bits u (p / 4 % 4) * 4) p ≡ exchanged_both m t u p
bits-exchanged = by_mode (λ (m : Mode). (t u : Bool) (p : ℕ) → p < 2 ^ p_bits m → both_bits m t u p ≡ exchanged_both m t u p) bits_1 bits_3

-- so are those of the compressed fields
bits_swapped : (m : Mode) → Double m → (g : BlockFields) → exchanged_both m (swaps m g 0) (swaps m g 1) g.p ≡ (compressed m g).p
unfolding compressed swapped_by
bits_swapped m double g =
    joined_same m _ _
    (λ s h. ap (λ (t : Bool). swapped_own m t (own m g.p s)) (two (λ (s : ℕ). pick (eqb s 0) (swaps m g 0) (swaps m g 1) ≡ swaps m g s) refl refl s (rw double.two at h)))

-- the fields that a writer of fields is handed: they are those of the compressed fields
pub record Ready (m : Mode) (f : Fields) (ends : List Rgb) (p n : ℕ) : Type 0 where
  pub four : length ends ≡ 4
  pub channels : Stored m ends
  pub own : p < 2 ^ p_bits m
  pub rest : n < 2 ^ (16 * m.index_bits - 2)
  pub block : (h : ℕ) → h ≡ join (front_widths m.number m.channel_bits (p_bits m ∷ (16 * m.index_bits - 2) ∷ [])) (front_values m.number f.partition ends (p ∷ n ∷ []))
      → bytes 16 h ≡ packed m (compressed m (block_fields f))

module _ (m : Mode) (known : IsMode m) (f : Fields) (plain : Plain m (block_fields f)) where
  -- the fields as the chapter has them
  abbrev g : BlockFields
  g = block_fields f

  -- after any exchange
  abbrev after : BlockFields
  after = compressed m g

  law : Lawful m
  law = lawful_of m known

  order : Ordered m
  order = ordered_of m known

  double : Double m
  double = double_of m known

  -- the number of their indexes
  abbrev number : ℕ
  number = index_number m law order g plain

  -- its bits
  abbrev w : ℕ
  w = 16 * m.index_bits - 2

  formed : WellFormed m after
  formed = compressed_formed m law g plain

  stored : (ends : List Rgb) → channel_values m (without_alpha ends) ≡ channel_values m after.ends → Stored m ends
  stored ends e =
      stored_rgb m known ends
      (λ k h j l.
      subst (λ (x : ℕ). x < 2 ^ m.channel_bits)
      (sym (sym (channel-value m law (without_alpha ends) j k l h) ∙ ap (λ (vs : List ℕ). get_or vs (j * endpoints m + k) 0) e ∙ channel-value m law after.ends j k l h))
      (formed.within.channels k h j l))

  tail_same : join (p_bits m ∷ (w ∷ [])) (after.p ∷ (number ∷ [])) ≡ number * 2 ^ p_bits m + after.p
  unfolding join
  tail_same = ap (λ (x : ℕ). x * 2 ^ p_bits m + after.p) (join_single w number)

  ready_of : (ends : List Rgb) (p n : ℕ) → length ends ≡ 4 → channel_values m (without_alpha ends) ≡ channel_values m after.ends → p ≡ after.p → n ≡ number → Ready m f ends p n
  unfolding packed
  ready_of ends p n four e b i =
      let us : List ℕ = p_bits m ∷ (w ∷ []) in
      record {
        four = four;
        channels = stored ends e;
        own = rw b formed.within.p;
        rest = rw (i, sym (ap (λ (k : ℕ). 16 * m.index_bits - k) double.two)) (number_small m law order g plain);
        block = λ h same.
            ap (bytes 16)
            (same
            ∙ ap₂ join (front_widths_same m known us) (front_values_same m known f.partition ends (p ∷ (n ∷ [])) four)
            ∙ rw (e, b, i) (number_same m law order g plain us (after.p ∷ (number ∷ [])) tail_same));
      }

  -- what compress_p2 makes of the indexes
  module _ (v : ℕ) (list : v ≡ index_list m.index_bits f.indices) where
    steps : compress_p2 m.index_bits v (PARTITION-SET-2 f.partition) ≡ (record { compressed_indexes = number; bits = w }, swaps m g 0, swaps m g 1)
    steps =
        rw (list, list_digits m.index_bits order.most f.indices plain.sixteen (plain_small m g plain))
        (compress_two m law order double g plain)

    -- with the endpoints swapped as it says, and the p-bits p
    pub ready : (t u : Bool) (n p : ℕ) → n ≡ (compress_p2 m.index_bits v (PARTITION-SET-2 f.partition)).0.compressed_indexes →
        t ≡ (compress_p2 m.index_bits v (PARTITION-SET-2 f.partition)).1 → u ≡ (compress_p2 m.index_bits v (PARTITION-SET-2 f.partition)).2 →
        p ≡ exchanged_both m t u f.p → Ready m f (swapped_ends f.ends t u) p n
    ready t u n p e₀ e₁ e₂ bits =
        let t' : t ≡ swaps m g 0 = e₁ ∙ ap (λ r. r.1) steps in
        let u' : u ≡ swaps m g 1 = e₂ ∙ ap (λ r. r.2) steps in
        let four : length f.ends ≡ 4 = sym (without-length f.ends) ∙ plain.room in
        let pairs : swapped_ends f.ends t u ≡ swap_pairs black (map (swaps m g) (up_from 0 m.subsets)) 0 f.ends =
        ends_swapped t u f.ends four
        ∙ ap₂ (λ (a b : Bool). swap_pairs black (a ∷ (b ∷ [])) 0 f.ends) t' u'
        ∙ ap (λ (ts : List Bool). swap_pairs black ts 0 f.ends) (sym (swaps_two m double g)) in
        ready_of (swapped_ends f.ends t u) p n refl
        (ap (λ (es : List Rgb). channel_values m (without_alpha es)) pairs ∙ rgb_swapped m law f plain)
        (bits ∙ rw (t', u') (bits_swapped m double g)) (e₀ ∙ ap (λ r. r.0.compressed_indexes) steps)
