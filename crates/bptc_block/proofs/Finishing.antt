-- The finisher's promise, by any distance: the error is the block's distance, the block is the candidate's, and none such lies closer.
use Prim.Native.Nat.{ℕ, ◌-◌, ◌^◌, ◌≤◌, ◌<◌}
use native.Mathlib.Omega.{arith}
use mathlib.Core.Path.{◌≡◌, refl, sym, ap, ◌∙◌, subst}
use mathlib.Core.Bool.{Bool, true, false}
use mathlib.Core.Logic.{inl, inr}
use mathlib.Core.List.{List}
use lib.ListN.{get_or, length}
use Rattle.lists.specs.Tests.{pick}
use Rattle.lists.specs.Bytes.{Bytes}
use Rattle.lists.proofs.Sums.{pixels-same}
use Rattle.bptc.specs.Colour.{Rgba}
use Rattle.bptc_block.specs.Fields.{BlockFields, places}
use Rattle.bptc_block.specs.declared.PBits.{PBits}
use Rattle.bptc_block.specs.declared.PBits.TheVariants.{Free, Fixed}
use Rattle.bptc_block.specs.RgbaCandidate.{RgbaCandidate}
use Rattle.bptc.specs.Mode.{Mode, mode_numbered, endpoints, p_bits}
use Rattle.bptc.specs.Colour.{clear, channel, stored}
use Rattle.bptc.specs.Shown.{own, own_bit}
use Rattle.bptc.specs.Palette.{end_of}
use Rattle.bptc_block.specs.Fields.{Plain}
use Rattle.bptc_block.specs.Packed.{packed, mode_of, fields_of}
use Rattle.bptc_block.specs.Chapter.{apart_at, apart, block_apart}
use Rattle.bptc_block.specs.Exchange.{swaps, swapped_by, compressed}
use Rattle.bptc_block.specs.Finish.{bits_in, fields_at, chosen_fields, fields_by, finished_by}
use Rattle.bptc_block.specs.Limits.{BitsWithin}
use Rattle.bptc_block.specs.Allowed.{SameSubset, Allowed}
use Rattle.bptc.proofs.Colours.{stored_twice}
use Rattle.bptc_block.proofs.Modes.{Lawful, lawful}
use Rattle.bptc_block.proofs.Widths.{plain_of}
use Rattle.bptc_block.proofs.Packed.{packed-length, packed-bytes, well_formed, fields-packed, mode-packed, packed-fields}
use Rattle.bptc_block.proofs.Swapped.{swapped_pair, swapped_pbit}
use Rattle.bptc_block.proofs.Exchanging.{compressed-colour, compressed_formed, compressed_still}
use Rattle.bptc_block.proofs.Chosen.{own_bits_lem, optimal, chosen_plain}

-- a packed block holds the exchanged fields and lies as far as those handed in
module _ (m : Mode) (law : Lawful m) (f : BlockFields) (plain : Plain m f) where
  -- the block
  abbrev block : List ℕ
  block = packed m (compressed m f)

  -- its mode
  pub pack-mode : mode_of block ≡ m.number
  pack-mode = mode-packed m law (compressed m f) (compressed_formed m law f plain)

  -- its fields
  pub pack-fields : fields_of m block ≡ compressed m f
  pack-fields = fields-packed m law (compressed m f) (compressed_formed m law f plain)

  -- its distance
  pub pack-apart : (distance : Rgba → Rgba → ℕ) (cs : List Rgba) → apart distance m cs (fields_of m block) ≡ apart distance m cs f
  unfolding apart apart_at
  pack-apart distance cs = rw pack-fields (pixels-same _ _ (λ i h. ap (distance (get_or cs i clear)) (compressed-colour m law f plain i h)))

-- packing what was read, exchange and all, returns the block
pub packed_again : (m : Mode) (law : Lawful m) (b : List ℕ) → length b ≡ 16 → Bytes b → mode_of b ≡ m.number → packed m (compressed m (fields_of m b)) ≡ b
packed_again m law b sixteen bs mode = rw (compressed_still m law (fields_of m b) (well_formed m law b)) (packed-fields m law b sixteen bs mode)

-- what was exchanged has the candidate's endpoints, in one order or the other
module _ (distance : Rgba → Rgba → ℕ) (m : Mode) (law : Lawful m) (part : ℕ) (ends cs : List Rgba) where
  fixed-bits : (p s : ℕ) → s < m.subsets → own m (chosen_fields distance m part ends (Fixed p) cs).p s ≡ own m p s
  unfolding chosen_fields fields_at bits_in
  fixed-bits p s h = own_bits_lem distance m law part ends cs (Fixed p) s h

  kept : (ps : PBits) (t : ℕ → Bool) (s : ℕ) → s < m.subsets → SameSubset m (swapped_by m t (chosen_fields distance m part ends ps cs)) ends ps s
  unfolding chosen_fields fields_at
  kept ps t s h = go ps (t s) refl
    where
      -- what is packed
      f : PBits → BlockFields
      f ps = chosen_fields distance m part ends ps cs

      end : (ps : PBits) (i : ℕ) → i < 2 → stored m (end_of (swapped_by m t (f ps)).ends s i) ≡ stored m (end_of ends s (pick (t s) (1 - i) i))
      end ps i l = ap (stored m) (swapped_pair m t (f ps) s i h l) ∙ stored_twice m _ law.shades.seen

      bit : (p : ℕ) (i : ℕ) → i < 2 → own_bit m.own_bits (own m (swapped_by m t (f (Fixed p))).p s) i ≡ own_bit m.own_bits (own m p s) (pick (t s) (1 - i) i)
      bit p i l =
          swapped_pbit m t (f (Fixed p)) s i h l
          ∙ ap (λ (q : ℕ). own_bit m.own_bits q (pick (t s) (1 - i) i)) (fixed-bits p s h)

      go : (ps : PBits) (u : Bool) → t s ≡ u → SameSubset m (swapped_by m t (f ps)) ends ps s
      go Free true e = inr (rw e at (end Free 0 (omega arith)), rw e at (end Free 1 (omega arith)))
      go Free false e = inl (rw e at (end Free 0 (omega arith)), rw e at (end Free 1 (omega arith)))
      go (Fixed p) true e =
          inr ((rw e at (end (Fixed p) 0 (omega arith)), rw e at (bit p 0 (omega arith))), (rw e at (end (Fixed p) 1 (omega arith)), rw e at (bit p 1 (omega arith))))
      go (Fixed p) false e =
          inl ((rw e at (end (Fixed p) 0 (omega arith)), rw e at (bit p 0 (omega arith))), (rw e at (end (Fixed p) 1 (omega arith)), rw e at (bit p 1 (omega arith))))

-- a candidate that the checks accept
pub record Good (c : RgbaCandidate) : Type 0 where
  pub mode : (mode_numbered c.mode).number ≡ c.mode
  pub partition : c.partition < 2 ^ (mode_numbered c.mode).partition_bits
  pub room : length c.ends ≡ places
  pub stored :
      (k : ℕ) → k < endpoints (mode_numbered c.mode) → (j : ℕ) → j < (mode_numbered c.mode).channels →
      channel j (get_or c.ends k clear) < 2 ^ (mode_numbered c.mode).channel_bits
  pub p : BitsWithin (2 ^ p_bits (mode_numbered c.mode)) c.p

module _ (distance : Rgba → Rgba → ℕ) (cs : List Rgba) (c : RgbaCandidate) (good : Good c) where
  -- its mode
  abbrev m : Mode
  m = mode_numbered c.mode

  -- what finishing packs
  abbrev f : BlockFields
  f = fields_by distance cs c

  -- which is in range
  pub fields_plain : Plain m f
  fields_plain = chosen_plain distance m (lawful c.mode) c.partition c.ends cs c.p good.partition good.room good.stored

  -- the error is its distance
  pub finished_exact : (finished_by distance cs c).error ≡ block_apart distance cs (finished_by distance cs c).block
  unfolding block_apart finished_by
  finished_exact = rw (pack-mode m (lawful c.mode) f fields_plain ∙ good.mode) (sym (pack-apart m (lawful c.mode) f fields_plain distance cs))

  -- no block that the candidate could have become lies closer
  pub finished_closest : (other : List ℕ) → Allowed c other → (finished_by distance cs c).error ≤ block_apart distance cs other
  unfolding block_apart finished_by
  finished_closest other a =
      rw a.mode
      (optimal distance m (lawful c.mode) c.partition c.ends cs c.p (fields_of m other) a.partition
      (plain_of m (fields_of m other) (well_formed m (lawful c.mode) other)) a.subsets)

  -- and the block is one of these
  pub finished_allowed : Allowed c (finished_by distance cs c).block
  unfolding finished_by compressed chosen_fields fields_at swapped_by
  finished_allowed =
      let law : Lawful m = lawful c.mode in
      let e : fields_of m (packed m (compressed m f)) ≡ compressed m f = pack-fields m law f fields_plain in
      record {
        sixteen = packed-length m (compressed m f);
        bytes = packed-bytes m (compressed m f);
        mode = pack-mode m law f fields_plain ∙ good.mode;
        partition = ap (λ (g : BlockFields). g.partition) e;
        subsets = λ s h. subst (λ (g : BlockFields). SameSubset m g c.ends c.p s) (sym e) (kept distance m law c.partition c.ends cs c.p (swaps m f) s h);
      }
