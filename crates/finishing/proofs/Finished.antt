-- What the search gives for a candidate is what finishing packs: its indices, p-bits and error.
use mathlib.Core.Path.{◌≡◌, refl, sym, ap, ◌∙◌}
use Prim.Native.Nat.{ℕ, ◌*◌, ◌^◌, ◌<◌}
use mathlib.Core.List.{List, map}
use lib.ListN.{length, get_or, replicate}
use Rattle.lists.specs.Bits.{split, join}
use Rattle.lists.specs.Internal.Fields.{Fits}
use Rattle.lists.proofs.Rows.{each_same}
use Rattle.lists.proofs.Bits.{fits-same, split-join, join_lt, sum-replicate}
use Rattle.bptc.specs.declared.Rgb.{Rgb}
use Rattle.bptc.specs.Mode.{Mode, IsMode, mode_numbered, p_bits}
use Rattle.bptc.specs.Partition.{subset_of}
use Rattle.bptc.specs.Colour.{Rgba, clear, without_alpha, pixels_of, squared_distance}
use Rattle.bptc.specs.Shown.{own}
use Rattle.bptc.specs.Palette.{end_of, nearest}
use Rattle.bptc.specs.Internal.Masks.{mask_of}
use Rattle.bptc.specs.Internal.Pixels.{pixel_of}
use Rattle.bptc.specs.Internal.Colour.{black, colours_of}
use Rattle.bptc.proofs.Modes.{is_mode}
use Rattle.bptc.proofs.PartitionRule.{subset_two}
use Rattle.bptc.proofs.Opaque.{opaque, pixels_opaque}
use Rattle.bptc_block.specs.declared.PBits.{PBits}
use Rattle.bptc_block.specs.declared.PBits.TheVariants.{Free, Fixed}
use Rattle.bptc_block.specs.declared.Candidate.{Candidate}
use Rattle.bptc_block.specs.Fields.{BlockFields, block_fields, Plain}
use Rattle.bptc_block.specs.Limits.{BitsWithin}
use Rattle.bptc_block.specs.RgbaCandidate.{rgba_candidate}
use Rattle.bptc_block.specs.Chapter.{apart}
use Rattle.bptc_block.specs.Finish.{bits_in, chosen_bits, fields_at, chosen_fields, fields_by, finished_by, finish}
use Rattle.bptc_block.specs.Internal.Words.{word_fields}
use Rattle.bptc_block.proofs.OwnBits.{joined-own}
use Rattle.bptc_block.proofs.Opaque.{two_subsets, nearest_index, apart_closest}
use Rattle.bptc_block.proofs.Finishing.{Good, fields_plain}
use Rattle.bptc_rust.proofs.Compressing.{plain_small}
use Rattle.closest.specs.Found.{indexes_in}
use Rattle.closest.specs.Pick.{bits_for}
use Rattle.finishing.specs.declared.Indices.{Indices}
use Rattle.finishing.specs.Indices.{nearest_at, nearest_for}

-- the p-bits of the search are those that finishing gives, where those that are fixed are in range
bits_chosen : (m : Mode) (part : ℕ) (ends : List Rgb) (ps : PBits) (px : List ℕ) → BitsWithin (2 ^ p_bits m) ps →
    bits_for m part ends ps px ≡ chosen_bits squared_distance m part (without_alpha ends) ps (pixels_of 3 px)
unfolding chosen_bits bits_in
bits_chosen m part ends Free px h = refl
bits_chosen m part ends (Fixed p) px h = sym (joined-own m p h)

-- over 48 bytes
module _ (m : Mode) (known : IsMode m) (part : ℕ) (ends : List Rgb) (px : List ℕ) (long : length px ≡ 48) (p : ℕ) where
  -- the pixels' colours, with an alpha
  abbrev pixels : List Rgba
  pixels = pixels_of 3 px

  -- the fields at p-bits
  abbrev fields : BlockFields
  fields = fields_at squared_distance m part (without_alpha ends) pixels p

  same : (i : ℕ) → i < 16 → get_or pixels i clear ≡ opaque (get_or (colours_of px) i black)
  same = pixels_opaque px long

  -- their indices are the search's
  indices_at : indexes_in m ends p (mask_of part) (colours_of px) ≡ join (replicate 16 m.index_bits) fields.indices
  unfolding indexes_in fields_at subset_of
  indices_at =
      ap (join (replicate 16 m.index_bits))
      (each_same 0 _ _ 16
      (λ i h.
      sym
      (ap (λ (n : ℕ). near (subset_of n part i) i) (two_subsets m known)
      ∙ nearest_index m known part ends (colours_of px) pixels same p (subset_of 2 part i) (subset_two part i) i h)))
    where
      near : ℕ → ℕ → ℕ
      near s i = nearest squared_distance m (end_of (without_alpha ends) s 0) (end_of (without_alpha ends) s 1) (own m p s) (get_or pixels i clear)

  -- their error is that of both subsets
  error_at : (nearest_at m part ends px p).error ≡ apart squared_distance m pixels fields
  unfolding nearest_at
  error_at = sym (apart_closest m known part ends (colours_of px) pixels same p)

-- a candidate in range
module _ (px : List ℕ) (long : length px ≡ 48) (c : Candidate) (good : Good (rgba_candidate c)) where
  -- its mode
  abbrev m : Mode
  m = mode_numbered c.mode

  -- what the search gives
  abbrev given : Indices
  given = nearest_for m c.partition c.ends c.p px

  -- what finishing packs, before any exchange
  abbrev packs : BlockFields
  packs = fields_by squared_distance (pixels_of 3 px) (rgba_candidate c)

  plain : Plain m packs
  plain = fields_plain squared_distance (pixels_of 3 px) (rgba_candidate c) good

  chosen : bits_for m c.partition c.ends c.p px ≡ chosen_bits squared_distance m c.partition (without_alpha c.ends) c.p (pixels_of 3 px)
  chosen = bits_chosen m c.partition c.ends c.p px good.p

  -- the fields at p-bits
  abbrev by : ℕ → BlockFields
  by p = fields_at squared_distance m c.partition (without_alpha c.ends) (pixels_of 3 px) p

  -- its indices
  pub finished_indexes : given.indexes ≡ join (replicate 16 m.index_bits) packs.indices
  unfolding nearest_at chosen_fields
  finished_indexes =
      indices_at m (is_mode c.mode) c.partition c.ends px long (bits_for m c.partition c.ends c.p px)
      ∙ ap (λ (p : ℕ). join (replicate 16 m.index_bits) (by p).indices) chosen

  -- the error that it gives
  pub finished_error : given.error ≡ (finish px c).error
  unfolding finished_by chosen_fields
  finished_error =
      error_at m (is_mode c.mode) c.partition c.ends px long (bits_for m c.partition c.ends c.p px)
      ∙ ap (λ (p : ℕ). apart squared_distance m (pixels_of 3 px) (by p)) chosen

  fits : Fits (replicate 16 m.index_bits) packs.indices
  fits = rw plain.sixteen at (fits-same m.index_bits packs.indices (λ i l. plain_small m packs plain i))

  -- the number has no bits above the indices
  pub finished_small : given.indexes < 2 ^ (16 * m.index_bits)
  finished_small = rw (finished_indexes, ← sum-replicate 16 m.index_bits) (join_lt fits)

  -- and words with it stand for what is packed
  pub finished_fields : (ends : List ℕ) → map pixel_of ends ≡ c.ends →
      block_fields (word_fields m.index_bits (record { partition = c.partition; ends = ends; p = given.p; indexes = given.indexes })) ≡ packs
  unfolding nearest_at chosen_fields fields_at
  finished_fields ends e =
      λ t. record {
        partition = c.partition;
        ends = ap without_alpha e t;
        p = chosen t;
        indices = (ap (split (replicate 16 m.index_bits)) finished_indexes ∙ split-join fits) t;
      }
