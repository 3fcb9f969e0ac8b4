-- The subsets, each compressed by itself, and their indexes and errors together, for any number of subsets: what finishing chooses.
use Prim.Native.Nat.{ℕ, ◌+◌, ◌*◌, ◌^◌, ◌<◌}
use native.Mathlib.Omega.{arith}
use mathlib.Core.Path.{◌≡◌, sym, ap, ap₂, ◌∙◌, subst}
use mathlib.Core.Bool.{Bool}
use mathlib.Core.List.{List, [], map}
use lib.ListN.{get_or}
use Rattle.lists.specs.Rows.{up_from, sum}
use Rattle.lists.specs.Least.{first_least}
use Rattle.lists.proofs.Rows.{each_same}
use Rattle.bptc.specs.declared.Rgb.{Rgb}
use Rattle.bptc.specs.Mode.{Mode, IsMode}
use Rattle.bptc.specs.Partition.{subset_in}
use Rattle.bptc.specs.Colour.{Rgba, clear, without_alpha, squared_distance}
use Rattle.bptc.specs.Shown.{end_shown}
use Rattle.bptc.specs.Palette.{end_of, nearest}
use Rattle.bptc.specs.Internal.Colour.{black, Below}
use Rattle.bptc.proofs.Pixels.{Shown}
use Rattle.bptc.proofs.Palettes.{end_byte}
use Rattle.bptc.proofs.Opaque.{opaque, end_alpha}
use Rattle.bptc_block.specs.Fields.{BlockFields}
use Rattle.bptc_block.specs.declared.PBits.{PBits}
use Rattle.bptc_block.specs.declared.PBits.TheVariants.{Free, Fixed}
use Rattle.bptc_block.specs.Chapter.{apart}
use Rattle.bptc_block.specs.Finish.{error_in, bits_in, fields_at, chosen_fields}
use Rattle.bptc_block.proofs.Modes.{Lawful, lawful_of, subset-below}
use Rattle.bptc_block.proofs.Stored.{Kept, of_mode, stored_rgb}
use Rattle.bptc_block.proofs.Chosen.{split, own_bits_lem, chosen_error}
use Rattle.bptc_rust.specs.PBitHandling.{PBitHandling}
use Rattle.bptc_rust.specs.Closest.{closest_rgb}
use Rattle.bptc_rust.specs.Encode.{possibilities, compress_rgb}
use Rattle.bptc_rust.specs.Internal.Merge.{merge_n}
use Rattle.bptc_rust.proofs.Members.{pixels, members}
use Rattle.bptc_rust.proofs.Painting.{paints_of}
use Rattle.bptc_rust.proofs.Digits.{digits}
use Rattle.bptc_rust.proofs.Order.{ordered_of}
use Rattle.bptc_rust.proofs.Swaps.{p_number}
use Rattle.bptc_rust.proofs.Trial.{Best, best_directly}
use Rattle.bptc_rust.proofs.Merging.{merged}
use Rattle.bptc_rust.proofs.Closest.{near_in, near_small, indexes_in, closest_same}
use Rattle.bptc_rust.proofs.Handling.{Handles, number_small}

-- pixels that are opaque colours, and endpoints within the mode's width
module _ (m : Mode) (known : IsMode m) (part : ℕ) (ends cs : List Rgb) (px : List Rgba)
    (same : (i : ℕ) → i < 16 → get_or px i clear ≡ opaque (get_or cs i black)) (bytes : (i : ℕ) → Below 256 (get_or cs i black))
    (kept : Kept m ends) where
  law : Lawful m
  law = lawful_of m known

  -- the endpoints as the chapter has them
  abbrev es : List Rgba
  es = without_alpha ends

  -- the pixels of subset s
  abbrev pub colours_in : ℕ → List Rgb
  colours_in s = map (λ (i : ℕ). get_or cs i black) (members (subset_in m part) s pixels)

  -- what finishing packs
  abbrev pub fields_of : PBits → BlockFields
  fields_of ps = chosen_fields squared_distance m part es ps px

  -- and its own p-bits of subset s
  abbrev pub bits_of : PBits → ℕ → ℕ
  bits_of ps s = bits_in squared_distance m part es ps px s

  -- the errors of the subsets together
  pub summed : (ps : PBits) → sum (map (λ (s : ℕ). error_in squared_distance m part es px s (bits_of ps s)) (up_from 0 m.subsets))
      ≡ apart squared_distance m px (fields_of ps)
  summed ps =
      ap sum (each_same 0 _ _ m.subsets (λ s h. sym (chosen_error squared_distance m law part es px ps s h)))
      ∙ sym (split squared_distance m law px (fields_of ps))

  -- their indexes
  pub merges : (ps : PBits) →
      merge_n m.subsets m.index_bits (subset_in m part) (λ (s : ℕ). indexes_in m part ends cs s (bits_of ps s))
      ≡ digits m.index_bits (fields_of ps).indices
  unfolding chosen_fields fields_at
  merges ps =
      merged m.subsets m.index_bits (ordered_of m known).most (subset_in m part) (subset-below m law part)
      (λ (s i : ℕ). near_in m part ends cs s (bits_of ps s) i)
      (λ s. near_small m part ends cs s (bits_of ps s))
      ∙ ap (digits m.index_bits)
      (each_same 0 _ _ 16
      (λ i h.
      let s : ℕ = subset_in m part i in
      ap₂ (λ (q : ℕ) (c : Rgba). nearest squared_distance m (end_of es s 0) (end_of es s 1) q c)
      (sym (own_bits_lem squared_distance m law part es px ps s (subset-below m law part i))) (sym (same i h))))

  module _ {State : Type 0} (p-bit : PBitHandling State) (fixed : ℕ → ℕ → State) (list : State → List Bool)
      (handles : Handles m p-bit fixed list) where
    -- the own p-bits of a state
    abbrev num : State → ℕ
    num p = p_number (list p)

    -- compress_rgb on the pixels of subset s
    abbrev pub tried : ℕ → State × List State → ℕ × ℕ × State
    tried s (first, others) = compress_rgb p-bit m.channel_bits m.index_bits (colours_in s) (get_or ends (2 * s + 0) black)
        (get_or ends (2 * s + 1) black) first others

    stored : (s h : ℕ) → s < m.subsets → h < 2 → Below (2 ^ m.channel_bits) (get_or ends (2 * s + h) black)
    stored s h l k = stored_rgb m known ends kept (2 * s + h) (omega (arith, (of_mode m known).0))

    num_small : (p : State) → num p < 2 ^ m.own_bits
    num_small p = subst (λ (w : ℕ). num p < 2 ^ w) (handles.long p) (number_small (list p))

    shown : (s h : ℕ) → s < m.subsets → h < 2 → (p : State) → Shown (end_shown m (num p) h (end_of es s h))
    shown s h l k p = end_byte m law.shades (num p) h (end_of es s h) (num_small p) (kept (2 * s + h) (omega arith))

    tried_closest : (s : ℕ) → s < m.subsets → (p : State) →
        let r : Rgb × Rgb = p-bit.promote_rgb p m.channel_bits (get_or ends (2 * s + 0) black) (get_or ends (2 * s + 1) black) in
        closest_rgb m.index_bits r.0 r.1 (colours_in s)
        ≡ (indexes_in m part ends cs s (num p), error_in squared_distance m part es px s (num p))
    tried_closest s h p =
        closest_same m part ends cs px same bytes s (num p) law.shades (paints_of m known) (ordered_of m known).most _ _
        (ap (end_shown m (num p) 0) (end_alpha ends (2 * s + 0)) ∙ handles.low p _ _ (stored s 0 h (omega arith)))
        (ap (end_shown m (num p) 1) (end_alpha ends (2 * s + 1)) ∙ handles.high p _ _ (stored s 1 h (omega arith)))
        (shown s 0 h (omega arith) p) (shown s 1 h (omega arith) p)

    tried_best : (s : ℕ) → s < m.subsets → (first : State) (others : List State) →
        Best num (error_in squared_distance m part es px s) (indexes_in m part ends cs s) (tried s (first, others))
        (first_least (error_in squared_distance m part es px s) (num first) (map num others))
    unfolding compress_rgb
    tried_best s h first others =
        best_directly num (error_in squared_distance m part es px s) (indexes_in m part ends cs s) _
        (λ p. ap {B = ℕ × ℕ} (λ (r : ℕ × ℕ). (r.1, r.0)) (tried_closest s h p)) first others

    -- keeps the own p-bits that finishing gives the subset
    pub best : (ps : PBits) (s : ℕ) → s < m.subsets →
        Best num (error_in squared_distance m part es px s) (indexes_in m part ends cs s) (tried s (possibilities p-bit (fixed s) ps))
        (bits_of ps s)
    unfolding bits_in first_least
    best Free s h = rw (handles.first, handles.others) at (tried_best s h p-bit.first p-bit.others)
    best (Fixed p) s h = rw (handles.own_bits s p) at (tried_best s h (fixed s p) [])
