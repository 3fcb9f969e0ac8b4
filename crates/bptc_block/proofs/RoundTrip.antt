-- The round trips: reading after packing, and packing after reading.
use Prim.Native.Nat.{ℕ, suc, ◌+◌, ◌*◌, ◌≤◌, ◌<◌}
use native.Mathlib.Numerals.{add-one}
use native.Mathlib.Omega.{arith}
use mathlib.Core.Path.{◌≡◌, refl, sym, ap, ap₂, ◌∙◌, subst}
use mathlib.Core.Logic.{inl, inr}
use mathlib.Core.List.{List, [], ◌∷◌, map}
use lib.ListN.{length, get_or}
use Rattle.lists.proofs.Rows.{each_same, get_or-each}
use Rattle.lists.proofs.Digits.{zeros_of}
use Rattle.bptc.specs.Mode.{Mode, IsMode, mode_numbered}
use Rattle.bptc.specs.Partition.{subset_in}
use Rattle.bptc.specs.Colour.{Rgba, clear, channel, without_alpha, rgb_of, pixel_in, pixel_bytes}
use Rattle.bptc.specs.Shown.{own}
use Rattle.bptc.specs.Palette.{end_of}
use Rattle.bptc.proofs.Modes.{each_mode}
use Rattle.bptc.proofs.Largest.{fits-largest}
use Rattle.bptc.proofs.Pixels.{pixel_again}
use Rattle.bptc.proofs.Palettes.{palette_alpha}
use Rattle.bptc_block.specs.declared.Fields.{Fields}
use Rattle.bptc_block.specs.Fields.{BlockFields, block_fields, rgb_fields, Plain, Clean, WellFormed}
use Rattle.bptc_block.specs.Packed.{packed, mode_of, fields_of}
use Rattle.bptc_block.specs.Chapter.{colour_at, colours}
use Rattle.bptc_block.specs.Exchange.{compressed}
use Rattle.bptc_block.specs.PackCall.{fixed_at, pack_of, pack_into}
use Rattle.bptc_block.specs.Answers.{reading_of}
use Rattle.bptc_block.specs.ReadCall.{read_of, read_into}
use Rattle.bptc_block.specs.Limits.{Limits, InRange}
use Rattle.bptc_block.specs.RoundTrip.{Block, plain_pixel, PackedAsRead, ReadAsPacked}
use Rattle.bptc_block.proofs.Widths.{plain_of}
use Rattle.bptc_block.proofs.Packed.{packed-length, well_formed}
use Rattle.bptc_block.proofs.Modes.{Lawful, lawful, lawful_of}
use Rattle.bptc_block.proofs.Exchanging.{compressed-colour}
use Rattle.bptc_block.proofs.Finishing.{pack-mode, pack-fields, packed_again}
use Rattle.bptc_block.proofs.Refusals.{Known, own-number, row-known, candidate_good}
use Rattle.bptc_block.proofs.PackCall.{pack-block, pack_accepts}
use Rattle.bptc_block.proofs.Stored.{of_mode}
use Rattle.bptc_block.proofs.ReadCall.{readable, read_answer_lem, read-pixels, read_length}

-- the modes of the calls have no alpha
pub three_channels : (n : ℕ) → (mode_numbered n).channels ≡ 3
three_channels = each_mode (λ (m : Mode). m.channels ≡ 3) refl refl

-- fields in range may be packed, in a mode that is one of the two
pub in_range_lem : (mode : ℕ) (f : Fields) → InRange mode f → Known mode × Plain (mode_numbered mode) (block_fields f)
in_range_lem mode f (range, (sixteen, small)) =
    let (known, good) = candidate_good (fixed_at mode f) range in (
      known,
      record {
        partition = good.partition;
        room = good.room;
        channels = good.stored;
        p = good.p;
        sixteen = sixteen;
        indices = λ i h. fits-largest (mode_numbered mode) _ (subst (λ (row : Limits). get_or f.indices i 0 < row.index) (row-known mode known) (small i h));
      },
    )

-- endpoints without an alpha have none to lose
alpha-again : (es : List Rgba) → ((k : ℕ) → channel 3 (get_or es k clear) ≡ 0) → without_alpha (map rgb_of es) ≡ es
unfolding without_alpha channel
alpha-again [] none = refl
alpha-again (c ∷ cs) none =
    let alpha : 0 ≡ c.a = sym (none 0) in
    ap₂ (λ (x : Rgba) (xs : List Rgba). x ∷ xs) (λ i. record { r = c.r; g = c.g; b = c.b; a = alpha i }) (alpha-again cs (λ k. none (suc k)))

-- so clean fields are the same in three channels
pub rgb_again : (m : Mode) → m.channels ≡ 3 → (f : BlockFields) → Clean m f → block_fields (rgb_fields f) ≡ f
rgb_again m three f clean =
    ap (λ (es : List Rgba). record { partition = f.partition; ends = es; p = f.p; indices = f.indices }) (alpha-again f.ends (λ k. clean.alpha k 3 (rw three (omega arith))))

-- and those of a block of a mode
pub block_again : (m : Mode) → IsMode m → (block : List ℕ) → block_fields (rgb_fields (fields_of m block)) ≡ fields_of m block
block_again m is block = rgb_again m (of_mode m is).1 (fields_of m block) (well_formed m (lawful_of m is) block).clean

-- which are in range
pub block_plain : (m : Mode) → IsMode m → (block : List ℕ) → Plain m (block_fields (rgb_fields (fields_of m block)))
block_plain m is block = subst (Plain m) (sym (block_again m is block)) (plain_of m (fields_of m block) (well_formed m (lawful_of m is) block))

-- every colour of fields in range is opaque
pub colour_opaque : (m : Mode) → Lawful m → m.channels ≡ 3 → (f : BlockFields) → Plain m f → (i : ℕ) → i < 16 → (j : ℕ) → 3 ≤ j → j < 4 → channel j (colour_at m f i) ≡ 255
unfolding colour_at
colour_opaque m law three f plain i h j past l =
    let s : ℕ = subset_in m f.partition i in
    palette_alpha m law.shades (end_of f.ends s 0) (end_of f.ends s 1) (own m f.p s) (get_or f.indices i 0) j (omega (arith, plain.indices i h)) (rw three past) l

-- a pixel by the places of its bytes
pub plain_same : (px : List ℕ) (i : ℕ) → plain_pixel px i ≡ pixel_in 3 px i
plain_same px i = let e : i * 3 + 0 ≡ i * 3 = omega arith in rw e refl

-- so that it is again in the bytes of all
pub shown_pixel : (m : Mode) → Lawful m → m.channels ≡ 3 → (f : BlockFields) → Plain m f → (i : ℕ) → i < 16 → pixel_in 3 (pixel_bytes 3 (colours m f)) i ≡ colour_at m f i
unfolding colours
shown_pixel m law three f plain i h =
    let e : get_or (colours m f) i clear ≡ colour_at m f i = get_or-each clear (colour_at m f) 16 i h in
    pixel_again 3 (omega arith) (colours m f) i h (λ j past l. ap (channel j) e ∙ colour_opaque m law three f plain i h j past l) ∙ e

-- a packed block says its mode, holds the exchanged fields and shows the colours of those handed in
module _ (mode : ℕ) (f : Fields) (known : Known mode) (plain : Plain (mode_numbered mode) (block_fields f)) where
  -- the mode
  abbrev m : Mode
  m = mode_numbered mode

  -- the block that is packed
  abbrev b : List ℕ
  b = packed m (compressed m (block_fields f))

  -- the mode of the block
  pub says-mode : mode_of b ≡ mode
  says-mode = pack-mode m (lawful mode) (block_fields f) plain ∙ own-number mode known

  module _ (px : List ℕ) (pixels : length px ≡ 48) where
    reads : (read_of b px).refusal ≡ 0
    reads = readable b px pixels (packed-length m (compressed m (block_fields f))) (rw says-mode known)

    answer : read_of b px ≡ reading_of mode (rgb_fields (compressed m (block_fields f)))
    answer = rw (read_answer_lem b px reads, says-mode, pack-fields m (lawful mode) (block_fields f) plain)

    shows : read_into b px ≡ pixel_bytes 3 (colours m (block_fields f))
    unfolding colours
    shows =
        rw (read-pixels b px reads, says-mode, pack-fields m (lawful mode) (block_fields f) plain)
        (ap (pixel_bytes 3) (each_same clear (colour_at m (compressed m (block_fields f))) (colour_at m (block_fields f)) 16 (compressed-colour m (lawful mode) (block_fields f) plain)))

-- reading after packing
pub read-packed : ReadAsPacked
read-packed mode f part px fit sixteen pixels =
    let (known, plain) = in_range_lem mode f fit in
    rw (pack-block mode f part (pack_accepts mode f part sixteen known plain)) (answer mode f known plain px pixels, shows mode f known plain px pixels)

-- the mode that a block's lowest bits say is the chapter's
pub block_says : (n : ℕ) (block : List ℕ) → Block n block → mode_of block ≡ n
unfolding mode_of
block_says n block h = zeros_of 8 n (get_or block 0 0) (small h.known) (rw add-one at h.mode)
  where
    small : Known n → n < 8
    small (inl e) = omega arith
    small (inr e) = omega arith

-- packing after reading
module _ (n : ℕ) (block px part : List ℕ) (h : Block n block) (pixels : length px ≡ 48) (sixteen : length part ≡ 16) where
  -- the block's mode
  abbrev own_mode : Mode
  own_mode = mode_numbered n

  -- the fields that it holds
  abbrev g : BlockFields
  g = fields_of own_mode block

  says : mode_of block ≡ n
  says = block_says n block h

  formed : WellFormed own_mode g
  formed = well_formed own_mode (lawful n) block

  plain : Plain own_mode g
  plain = plain_of own_mode g formed

  lifted : block_fields (rgb_fields g) ≡ g
  lifted = rgb_again own_mode (three_channels n) g formed.clean

  ok : (read_of block px).refusal ≡ 0
  ok = readable block px pixels h.sixteen (rw says h.known)

  fields : read_of block px ≡ reading_of n (rgb_fields g)
  fields = rw says at (read_answer_lem block px ok)

  bytes : read_into block px ≡ pixel_bytes 3 (colours own_mode g)
  bytes = rw says at (read-pixels block px ok)

  accepts : pack_of n (rgb_fields g) part ≡ 0
  accepts = pack_accepts n (rgb_fields g) part sixteen h.known (subst (Plain own_mode) (sym lifted) plain)

  returns : pack_into n (rgb_fields g) part ≡ block
  returns =
      pack-block n (rgb_fields g) part accepts
      ∙ ap (λ (f : BlockFields). packed own_mode (compressed own_mode f)) lifted
      ∙ packed_again own_mode (lawful n) block h.sixteen h.bytes (says ∙ sym (own-number n h.known))

-- every field, colour and byte
pub packed-read : PackedAsRead
packed-read n block px part h pixels sixteen =
    record {
      fields = fields n block px part h pixels sixteen;
      long = read_length block px ∙ pixels;
      colours = λ i l. plain_same (read_into block px) i ∙ rw (bytes n block px part h pixels sixteen) (shown_pixel (mode_numbered n) (lawful n) (three_channels n) (fields_of (mode_numbered n) block) (plain n block px part h pixels sixteen) i l);
      accepted = rw (fields n block px part h pixels sixteen) (accepts n block px part h pixels sixteen);
      again = rw (fields n block px part h pixels sixteen) (returns n block px part h pixels sixteen);
    }
