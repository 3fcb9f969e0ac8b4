-- The subsets flipped one after the other, and then the anchors' top bits taken out, give the number of the compressed fields' indexes,
-- as a block has them; and the subsets that are flipped are those that `compressed` swaps.
use Prim.Native.Nat.{ℕ, zero, suc, ◌+◌, ◌-◌, ◌*◌, ◌^◌, ◌≤◌, ◌<◌}
use native.Mathlib.Nat.{le_refl, lt_of_lt_of_le}
use native.Mathlib.Omega.{arith}
use mathlib.Core.Path.{◌≡◌, refl, sym, ap, ap₂, ◌∙◌, subst}
use mathlib.Core.Bool.{Bool, true, false}
use mathlib.Core.List.{List, ◌∷◌, map}
use lib.Bits.{bit_xor, xor_zero_r}
use lib.Dec.{eqb, ltb}
use lib.ListN.{length, get_or, replicate, get_or-eq_default}
use lib.Pow.{pow_pos, pow_mono, lt_of_le_ones}
use borrow.Author.Tests.{ltb-true, ltb-false, eqb-false, ne_eqb}
use Rattle.lists.specs.Tests.{pick, and, or}
use Rattle.lists.specs.Rows.{up_from}
use Rattle.lists.proofs.Tests.{pick_elim}
use Rattle.lists.proofs.Tables.{any}
use Rattle.lists.proofs.Rows.{get_or-each, each_same, listed}
use Rattle.lists.specs.Bits.{join}
use Rattle.bptc_rust.specs.CompressedIndexList.{ensure_msb_zero}
use Rattle.lists.proofs.Bits.{fits_places, join_lt}
use Rattle.bptc_rust.proofs.Digits.{digits, Small, digits_small}
use Rattle.bptc_rust.proofs.TopBit.{xor_digits, xor_ones, msb}
use Rattle.bptc_block.specs.Fields.{BlockFields}
use Rattle.bptc.specs.Mode.{Mode, largest}
use Rattle.bptc.specs.Partition.{subset_in, anchor_in}
use Rattle.bptc_block.specs.Fields.{Plain, WellFormed, index_width}
use Rattle.bptc_block.specs.Exchange.{top_set, swaps, swapped_index, swapped_by, compressed}
use Rattle.bptc_block.specs.Internal.Order.{exchange_one, exchange_all}
use Rattle.bptc_rust.specs.Internal.Indexes.{fixups, bits_out, subset_mask, flip_from, flips_from, compress_indexes}
use Rattle.bptc_block.proofs.Modes.{Lawful}
use Rattle.bptc_block.proofs.Widths.{largest-fits}
use Rattle.bptc_block.proofs.Swapped.{swapped_plain}
use Rattle.bptc_block.proofs.Exchanging.{among, any_order, swaps-other, compressed_plain, compressed-partition, compressed_formed}
use Rattle.bptc_rust.proofs.AnchorBits.{every, all_out}
use Rattle.bptc_rust.proofs.Order.{Ordered, falling_of}

flip_digit : (I v : ℕ) (t : Bool) → v < 2 ^ I → bit_xor v (pick t (2 ^ I - 1) 0) ≡ pick t (2 ^ I - 1 - v) v
flip_digit I v true h = xor_ones I v h
flip_digit I v false h = xor_zero_r v

-- the indices of fields that may be packed are digits
pub plain_small : (m : Mode) (f : BlockFields) → Plain m f → Small m.index_bits f.indices
plain_small m f plain i = go (ltb i 16) refl
  where
    go : (u : Bool) → ltb i 16 ≡ u → get_or f.indices i 0 < 2 ^ m.index_bits
    go true e = largest-fits m _ (plain.indices i (ltb-true i 16 e))
    go false e = rw (get_or-eq_default f.indices 0 {n = i} (rw plain.sixteen (ltb-false i 16 e))) (pow_pos m.index_bits)

module _ (m : Mode) (law : Lawful m) (order : Ordered m) where
  -- the bits of an index
  abbrev w : ℕ
  w = m.index_bits

  -- a mask flips the indexes of its subset
  flip_digits : (f : BlockFields) → Plain m f → (s : ℕ) →
      bit_xor (digits w f.indices) (subset_mask m f.partition s)
      ≡ digits w (map (λ (i : ℕ). swapped_index m (eqb (subset_in m f.partition i) s) (get_or f.indices i 0)) (up_from 0 16))
  unfolding subset_mask digits largest
  flip_digits f plain s =
      let X : ℕ → ℕ = λ i. get_or f.indices i 0 in
      let M : ℕ → ℕ = λ i. pick (eqb (subset_in m f.partition i) s) (2 ^ w - 1) 0 in
      ap (λ (xs : List ℕ). bit_xor (digits w xs) (digits w (map M (up_from 0 16)))) (sym (listed 0 f.indices 16 plain.sixteen))
      ∙ xor_digits w X M (λ (i : ℕ). swapped_index m (eqb (subset_in m f.partition i) s) (X i)) (plain_small m f plain)
      (λ i. pick_elim (λ (n : ℕ). n < 2 ^ w) (eqb (subset_in m f.partition i) s) (λ t. lt_of_le_ones w (le_refl _)) (λ t. pow_pos w))
      (λ i. flip_digit w (X i) (eqb (subset_in m f.partition i) s) (plain_small m f plain i)) 16 0

  -- ensure_msb_zero: the subset is exchanged, and whether it was
  pub ensured : (f : BlockFields) → Plain m f → (s : ℕ) → s < m.subsets →
      ensure_msb_zero w (digits w f.indices) (anchor_in m f.partition s) (subset_mask m f.partition s) ≡ (digits w (exchange_one m s f).indices, swaps m f s)
  unfolding ensure_msb_zero exchange_one swapped_by swaps
  ensured f plain s h =
      ap {B = ℕ × Bool} (λ (t : Bool). (pick t (bit_xor (digits w f.indices) (subset_mask m f.partition s)) (digits w f.indices), t))
      (msb w order.most f.indices (anchor_in m f.partition s) (law.inside f.partition plain.partition s h) law.bits (plain_small m f plain))
      ∙ go (top_set m (get_or f.indices (anchor_in m f.partition s) 0))
    where
      last : (b : Bool) → and b true ≡ b
      last true = refl
      last false = refl

      never : (b : Bool) → and b false ≡ false
      never true = refl
      never false = refl

      go : (t : Bool) → ◌≡◌ {A = ℕ × Bool} (pick t (bit_xor (digits w f.indices) (subset_mask m f.partition s)) (digits w f.indices), t)
          (digits w (map (λ (i : ℕ). swapped_index m (and (eqb (subset_in m f.partition i) s) t) (get_or f.indices i 0)) (up_from 0 16)), t)
      go true =
          ap {B = ℕ × Bool} (λ (n : ℕ). (n, true))
          (flip_digits f plain s ∙ ap (digits w) (each_same 0 _ _ 16 (λ i l. ap (λ (b : Bool). swapped_index m b (get_or f.indices i 0)) (sym (last (eqb (subset_in m f.partition i) s))))))
      go false =
          ap {B = ℕ × Bool} (λ (n : ℕ). (n, false))
          (ap (digits w) (sym (each_same 0 _ _ 16 (λ i l. ap (λ (b : Bool). swapped_index m b (get_or f.indices i 0)) (never (eqb (subset_in m f.partition i) s))) ∙ listed 0 f.indices 16 plain.sixteen)))

  once_plain : (s : ℕ) (f : BlockFields) → Plain m f → Plain m (exchange_one m s f)
  unfolding exchange_one
  once_plain s f plain = swapped_plain m _ f law plain

  once_partition : (s : ℕ) (f : BlockFields) → (exchange_one m s f).partition ≡ f.partition
  unfolding exchange_one swapped_by
  once_partition s f = refl

  once_other : (s r : ℕ) (f : BlockFields) → Plain m f → r < m.subsets → (r ≡ s → ⊥) → swaps m (exchange_one m s f) r ≡ swaps m f r
  unfolding exchange_one
  once_other s r f plain h ne = swaps-other m law f plain _ r h (ap (λ (b : Bool). and b (swaps m f s)) (ne_eqb r s ne))

  -- the subsets from s on, one after the other
  flipped_from : (k s part : ℕ) (f : BlockFields) → Plain m f → f.partition ≡ part → s + k ≤ m.subsets →
      flip_from m part k s (digits w f.indices) ≡ digits w (exchange_all m (up_from s k) f).indices
  unfolding flip_from exchange_all
  flipped_from zero s part f plain same h = refl
  flipped_from (suc k) s part f plain same h =
      ap (flip_from m part k (suc s))
      (ap (λ (q : ℕ). (ensure_msb_zero w (digits w f.indices) (anchor_in m q s) (subset_mask m q s)).0) (sym same) ∙ ap (λ (r : ℕ × Bool). r.0) (ensured f plain s (omega arith)))
      ∙ flipped_from k (suc s) part (exchange_one m s f) (once_plain s f plain) (once_partition s f ∙ same) (omega arith)

  -- and whether each was, where the later ones are as they were in g
  flips_swapped : (k s part : ℕ) (f g : BlockFields) → Plain m f → f.partition ≡ part → s + k ≤ m.subsets → ((r : ℕ) → s ≤ r → r < m.subsets → swaps m f r ≡ swaps m g r) →
      flips_from m part k s (digits w f.indices) ≡ map (swaps m g) (up_from s k)
  unfolding flips_from
  flips_swapped zero s part f g plain same h later = refl
  flips_swapped (suc k) s part f g plain same h later =
      ap (λ (r : ℕ × Bool). r.1 ∷ flips_from m part k (suc s) r.0)
      (ap (λ (q : ℕ). ensure_msb_zero w (digits w f.indices) (anchor_in m q s) (subset_mask m q s)) (sym same) ∙ ensured f plain s (omega arith))
      ∙ ap₂ {C = List Bool} (λ (b : Bool) (bs : List Bool). b ∷ bs) (later s (omega arith) (omega arith))
      (flips_swapped k (suc s) part (exchange_one m s f) g (once_plain s f plain) (once_partition s f ∙ same) (omega arith)
      (λ r l b. once_other s r f plain b (λ e. omega arith) ∙ later r (omega arith) b))

  has : (s k n : ℕ) → n ≤ s → s < n + k → among s (up_from n k) ≡ true
  has s zero n h l = absurd (omega arith)
  has s (suc k) n h l = go (eqb s n) refl (λ g. has s k (suc n) g (omega arith))
    where
      go : (t : Bool) → eqb s n ≡ t → (suc n ≤ s → among s (up_from (suc n) k) ≡ true) → or t (among s (up_from (suc n) k)) ≡ true
      go true e later = refl
      go false e later =
          let ne : s ≡ n → ⊥ = eqb-false s n e in
          later (omega arith)

  module _ (f : BlockFields) (plain : Plain m f) where
    -- the number of the indexes as a block has them
    abbrev pub index_number : ℕ
    index_number = join (map (index_width m f.partition) (up_from 0 16)) (compressed m f).indices

    after : Plain m (compressed m f)
    after = compressed_plain m law f plain

    all-flipped : flip_from m f.partition m.subsets 0 (digits w f.indices) ≡ digits w (compressed m f).indices
    all-flipped =
        flipped_from m.subsets 0 f.partition f plain refl (omega arith)
        ∙ ap (λ (g : BlockFields). digits w g.indices) (any_order m law (up_from 0 m.subsets) f plain (λ s h. has s m.subsets 0 (omega arith) (omega arith)))

    low : (a : ℕ) → a < 16 → any (eqb a) (fixups m f.partition) ≡ true → get_or (compressed m f).indices a 0 < 2 ^ (w - 1)
    low a h e =
        let formed : WellFormed m (compressed m f) = compressed_formed m law f plain in
        let width : index_width m f.partition a ≡ w - 1 = sym (order.wide f.partition plain.partition a h) ∙ ap (λ (t : Bool). pick t (w - 1) w) e in
        rw (compressed-partition m law f plain, width) at (formed.within.indices a h)

    as_digits : digits w (compressed m f).indices ≡ join (map (λ (i : ℕ). w) (up_from 0 16)) (compressed m f).indices
    unfolding digits
    as_digits = ap (λ (ws : List ℕ). join ws (compressed m f).indices) (ap (λ (k : ℕ). replicate k w) after.sixteen ∙ sym (every w 16 0))

    whole : join (map (λ (i : ℕ). w) (up_from 0 16)) (compressed m f).indices < 2 ^ 64
    whole =
        subst (λ (n : ℕ). n < 2 ^ 64) as_digits
        (lt_of_lt_of_le (digits_small w (compressed m f).indices (plain_small m (compressed m f) after)) (pow_mono {i = length (compressed m f).indices * w} {j = 64} (rw after.sixteen (omega (arith, order.most)))))

    -- the compressed indexes
    pub indexes_compressed : compress_indexes m f.partition (digits w f.indices) ≡ index_number
    unfolding compress_indexes
    indexes_compressed =
        ap (bits_out w (fixups m f.partition)) (all-flipped ∙ as_digits)
        ∙ all_out w law.bits (compressed m f).indices after.sixteen (plain_small m (compressed m f) after) (λ (i : ℕ). w) 16 (fixups m f.partition) (omega arith) (λ i h. refl) whole
        (falling_of w (compressed m f).indices 16 (fixups m f.partition) (omega arith) (order.falling f.partition plain.partition) low)
        ∙ ap (λ (ws : List ℕ). join ws (compressed m f).indices) (each_same 0 _ _ 16 (order.wide f.partition plain.partition))

    -- and whether each subset is swapped
    pub flips_swaps : flips_from m f.partition m.subsets 0 (digits w f.indices) ≡ map (swaps m f) (up_from 0 m.subsets)
    flips_swaps = flips_swapped m.subsets 0 f.partition f f plain refl (omega arith) (λ r l b. refl)

    -- they have the bits that are written
    pub number_small : index_number < 2 ^ (16 * w - m.subsets)
    number_small =
        let formed : WellFormed m (compressed m f) = compressed_formed m law f plain in
        rw (order.total f.partition plain.partition) at
        (join_lt
        (fits_places (map (index_width m f.partition) (up_from 0 16)) (compressed m f).indices formed.within.sixteen
        (λ i l. rw (get_or-each 0 (index_width m f.partition) 16 i l) (rw (compressed-partition m law f plain) at (formed.within.indices i l)))))
