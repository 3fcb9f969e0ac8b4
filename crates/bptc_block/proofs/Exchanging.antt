-- After `compressed` every pixel has its colour and every anchor's index its top bit 0; what a block holds stays as it is; and the
-- subsets exchanged one after the other, in any order, give the same.
use Prim.Native.Nat.{ℕ, ◌-◌, ◌^◌, ◌≤◌, ◌<◌}
use native.Mathlib.Omega.{arith}
use mathlib.Core.Path.{◌≡◌, refl, sym, ap, ◌∙◌, subst}
use mathlib.Core.Bool.{Bool, true, false}
use mathlib.Core.List.{List, [], ◌∷◌}
use lib.Dec.{eqb, leb, T}
use lib.ListN.{get_or}
use borrow.Author.Tests.{leb-true, leb-false, lt-leb, eqb-true, eq-eqb}
use Rattle.lists.specs.Tests.{and, or}
use Rattle.lists.proofs.Tables.{any}
use Rattle.bptc_block.specs.Fields.{BlockFields}
use Rattle.bptc.specs.Mode.{Mode, largest}
use Rattle.bptc.proofs.Largest.{top_turned}
use Rattle.bptc.specs.Partition.{subset_in, anchor_in}
use Rattle.bptc_block.specs.Fields.{Plain, Clean, WellFormed, index_width}
use Rattle.bptc_block.specs.Chapter.{colour_at}
use Rattle.bptc_block.specs.Exchange.{top_set, swaps, swapped_index, swapped_by, compressed}
use Rattle.bptc_block.specs.Internal.Order.{exchange_one, exchange_all}
use Rattle.bptc_block.proofs.Modes.{Lawful}
use Rattle.bptc_block.proofs.Widths.{plain_of, index-fits}
use Rattle.bptc_block.proofs.OwnBits.{either}
use Rattle.bptc_block.proofs.Swapped.{swapped-index, swapped-colour, swapped-clean, swapped_plain, swapped_none, swapped_same, swapped-again}

-- an index with its top bit set, taken from the largest, has its top bit 0
pub top_swapped : (m : Mode) → Lawful m → (i : ℕ) → 2 ^ (m.index_bits - 1) ≤ i → largest m - i < 2 ^ (m.index_bits - 1)
top_swapped m law i l = top_turned m law.bits i l

module _ (m : Mode) (law : Lawful m) (f : BlockFields) (plain : Plain m f) where
  -- the index of subset s's anchor
  abbrev top : ℕ → ℕ
  top s = get_or f.indices (anchor_in m f.partition s) 0

  -- after some subsets are swapped
  anchor-index : (t : ℕ → Bool) (s : ℕ) → s < m.subsets → get_or (swapped_by m t f).indices (anchor_in m f.partition s) 0 ≡ swapped_index m (t s) (top s)
  anchor-index t s h =
      swapped-index m t f (anchor_in m f.partition s) (law.inside f.partition plain.partition s h)
      ∙ ap (λ (r : ℕ). swapped_index m (t r) (top s)) (law.placed f.partition plain.partition s h)

  -- every pixel has the colour that it had
  pub compressed-colour : (i : ℕ) → i < 16 → colour_at m (compressed m f) i ≡ colour_at m f i
  unfolding compressed
  compressed-colour i h = swapped-colour m (swaps m f) f law i h (omega (arith, plain.indices i h))

  -- the partition stays
  pub compressed-partition : (compressed m f).partition ≡ f.partition
  unfolding compressed swapped_by
  compressed-partition = refl

  -- the fields stay in range
  pub compressed_plain : Plain m (compressed m f)
  unfolding compressed
  compressed_plain = swapped_plain m (swaps m f) f law plain

  -- every anchor's index has its top bit 0
  pub compressed-low : (s : ℕ) → s < m.subsets → get_or (compressed m f).indices (anchor_in m f.partition s) 0 < 2 ^ (m.index_bits - 1)
  unfolding compressed swaps
  compressed-low s h = subst (λ (n : ℕ). n < 2 ^ (m.index_bits - 1)) (sym (anchor-index (swaps m f) s h)) (go (top_set m (top s)) refl)
    where
      go : (t : Bool) → top_set m (top s) ≡ t → swapped_index m t (top s) < 2 ^ (m.index_bits - 1)
      go true e = top_swapped m law (top s) (leb-true _ _ e)
      go false e = leb-false _ _ e

  formed_clean : Clean m (compressed m f)
  unfolding compressed
  formed_clean = swapped-clean m (swaps m f) f law

  -- a block can hold the fields as they stand
  pub compressed_formed : WellFormed m (compressed m f)
  compressed_formed =
      record {
        within = record {
          partition = compressed_plain.partition;
          room = compressed_plain.room;
          channels = compressed_plain.channels;
          p = compressed_plain.p;
          sixteen = compressed_plain.sixteen;
          indices = rw compressed-partition (index-fits m law f.partition (compressed m f).indices compressed_plain.indices compressed-low);
        };
        clean = formed_clean;
      }

  swaps-low : (t : ℕ → Bool) (s : ℕ) → s < m.subsets → swapped_index m (t s) (top s) < 2 ^ (m.index_bits - 1) → swaps m (swapped_by m t f) s ≡ false
  unfolding swaps swapped_by
  swaps-low t s h l = ap (leb (2 ^ (m.index_bits - 1))) (anchor-index t s h) ∙ lt-leb _ _ l

  -- a subset that is not swapped is to be swapped as before
  pub swaps-other : (t : ℕ → Bool) (s : ℕ) → s < m.subsets → t s ≡ false → swaps m (swapped_by m t f) s ≡ swaps m f s
  unfolding swaps swapped_by
  swaps-other t s h e = ap (leb (2 ^ (m.index_bits - 1))) (anchor-index t s h ∙ ap (λ (u : Bool). swapped_index m u (top s)) e)

  -- one that was swapped where it was to be is not
  swaps_done : (t : ℕ → Bool) (s : ℕ) → s < m.subsets → t s ≡ swaps m f s → swaps m (swapped_by m t f) s ≡ false
  unfolding swaps
  swaps_done t s h e = swaps-low t s h (subst (λ (u : Bool). swapped_index m u (top s) < 2 ^ (m.index_bits - 1)) (sym e) (go (top_set m (top s)) refl))
    where
      go : (t : Bool) → top_set m (top s) ≡ t → swapped_index m t (top s) < 2 ^ (m.index_bits - 1)
      go true d = top_swapped m law (top s) (leb-true _ _ d)
      go false d = leb-false _ _ d

-- what a block holds stays as it is
module _ (m : Mode) (law : Lawful m) (f : BlockFields) (w : WellFormed m f) where
  anchor-low : (s : ℕ) → s < m.subsets → get_or f.indices (anchor_in m f.partition s) 0 < 2 ^ (m.index_bits - 1)
  unfolding index_width
  anchor-low s h =
      let part : ℕ = f.partition in
      let a : ℕ = anchor_in m part s in
      let own : subset_in m part a ≡ s = law.placed part w.within.partition s h in
      rw (own, eq-eqb a a refl) at (w.within.indices a (law.inside part w.within.partition s h))

  swaps-none : (s : ℕ) → s < m.subsets → swaps m f s ≡ false
  unfolding swaps
  swaps-none s h = lt-leb _ _ (anchor-low s h)

  -- no subset is swapped
  pub compressed_still : compressed m f ≡ f
  unfolding compressed
  compressed_still = swapped_none m law (swaps m f) f (plain_of m f w) w.clean swaps-none

-- one of the list is s
abbrev pub among : ℕ → List ℕ → Bool
among s ss = any (eqb s) ss

module _ (m : Mode) (law : Lawful m) where
  once_plain : (r : ℕ) (g : BlockFields) → Plain m g → Plain m (exchange_one m r g)
  unfolding exchange_one
  once_plain r g plain = swapped_plain m (λ (s : ℕ). and (eqb s r) (swaps m g r)) g law plain

  once_clean : (r : ℕ) (g : BlockFields) → Clean m (exchange_one m r g)
  unfolding exchange_one
  once_clean r g = swapped-clean m (λ (s : ℕ). and (eqb s r) (swaps m g r)) g law

  -- one subset, and then those of a list
  one_more : (r : ℕ) (ss : List ℕ) (g : BlockFields) → Plain m g →
      ((g : BlockFields) → Plain m g → Clean m g → exchange_all m ss g ≡ swapped_by m (λ (s : ℕ). and (among s ss) (swaps m g s)) g) →
      exchange_all m ss (exchange_one m r g) ≡ swapped_by m (λ (s : ℕ). and (among s (r ∷ ss)) (swaps m g s)) g
  unfolding exchange_one
  one_more r ss g plain later =
      let t : ℕ → Bool = λ (s : ℕ). and (eqb s r) (swaps m g r) in
      let h : BlockFields = swapped_by m t g in
      later h (once_plain r g plain) (once_clean r g)
      ∙ swapped-again m law t (λ (s : ℕ). and (among s ss) (swaps m h s)) g plain
      ∙ swapped_same m law _ _ g (λ s l. each s l (eqb s r) refl)
    where
      each : (s : ℕ) → s < m.subsets → (b : Bool) → eqb s r ≡ b →
          either (and b (swaps m g r)) (and (among s ss) (swaps m (swapped_by m (λ (s : ℕ). and (eqb s r) (swaps m g r)) g) s)) ≡ and (or b (among s ss)) (swaps m g s)
      each s l true e =
          let q : s ≡ r = eqb-true s r e in
          let done : swaps m (swapped_by m (λ (s : ℕ). and (eqb s r) (swaps m g r)) g) s ≡ false =
          swaps_done m law g plain (λ (s : ℕ). and (eqb s r) (swaps m g r)) s l (ap (λ (b : Bool). and b (swaps m g r)) e ∙ ap (swaps m g) (sym q)) in
          ap (λ (u : Bool). either (swaps m g r) (and (among s ss) u)) done ∙ none (among s ss) (swaps m g r) ∙ ap (swaps m g) (sym q)
        where
          none : (a b : Bool) → either b (and a false) ≡ b
          none true true = refl
          none true false = refl
          none false true = refl
          none false false = refl
      each s l false e =
          ap (and (among s ss)) (swaps-other m law g plain (λ (s : ℕ). and (eqb s r) (swaps m g r)) s l (ap (λ (b : Bool). and b (swaps m g r)) e))

  -- the subsets of a list, one after the other: those in it are swapped, each by the index that its anchor had at first
  in_order : (ss : List ℕ) (g : BlockFields) → Plain m g → Clean m g → exchange_all m ss g ≡ swapped_by m (λ (s : ℕ). and (among s ss) (swaps m g s)) g
  unfolding exchange_all
  in_order [] g plain clean = sym (swapped_none m law (λ (s : ℕ). false) g plain clean (λ s h. refl))
  in_order (r ∷ ss) g plain clean = one_more r ss g plain (in_order ss)

  -- so where each subset is in the list, in any order, that is the closed form
  pub any_order : (ss : List ℕ) (f : BlockFields) → Plain m f → ((s : ℕ) → s < m.subsets → among s ss ≡ true) → exchange_all m ss f ≡ compressed m f
  unfolding exchange_all compressed
  any_order [] f plain all = absurd (let z : false ≡ true = all 0 law.some in subst (λ (b : Bool). T b) (sym z) tt)
  any_order (r ∷ ss) f plain all =
      one_more r ss f plain (in_order ss) ∙ swapped_same m law _ _ f (λ s h. ap (λ (b : Bool). and b (swaps m f s)) (all s h))
