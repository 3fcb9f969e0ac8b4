-- compress_mode1 and compress_mode3 give the block and the error of finishing, by one proof.
use Prim.Native.Nat.{ℕ, ◌+◌, ◌<◌}
use native.Mathlib.Nat.{add-zero}
use native.Mathlib.Omega.{arith}
use mathlib.Core.Path.{◌≡◌, sym, ap, ap₂, ◌∙◌}
use mathlib.Core.Bool.{Bool}
use mathlib.Core.List.{List, ◌++◌, map}
use lib.Dec.{eqb}
use lib.ListN.{length, get_or, take, drop, length-append}
use Rattle.lists.specs.Tests.{pick}
use Rattle.lists.specs.Rows.{up_from, sum}
use Rattle.lists.specs.Parts.{joined}
use Rattle.lists.proofs.Tables.{two as both}
use Rattle.bptc.specs.declared.Rgb.{Rgb}
use Rattle.bptc.specs.Mode.{Mode, mode1, mode3, IsMode, p_bits}
use Rattle.bptc.specs.Partition.{subset_of}
use Rattle.bptc.specs.Colour.{Rgba, clear, without_alpha, squared_distance}
use Rattle.bptc.specs.Internal.Colour.{black, Below}
use Rattle.bptc.proofs.Modes.{is_mode1, is_mode3}
use Rattle.bptc.proofs.Opaque.{opaque}
use Rattle.bptc_block.specs.declared.PBits.{PBits}
use Rattle.bptc_block.specs.declared.Fields.{Fields}
use Rattle.bptc_block.specs.Fields.{BlockFields, block_fields, Plain}
use Rattle.bptc_block.specs.Packed.{packed}
use Rattle.bptc_block.specs.Chapter.{apart}
use Rattle.bptc_block.specs.Exchange.{compressed}
use Rattle.bptc_block.specs.Finish.{error_in, chosen_bits, fields_at, chosen_fields}
use Rattle.bptc_block.specs.Compressed.{Compressed}
use Rattle.bptc_block.proofs.OwnBits.{joined_same}
use Rattle.bptc_block.proofs.Opaque.{two_subsets}
use Rattle.bptc_block.proofs.Stored.{Kept}
use Rattle.bptc_rust.specs.Subset2Map.{Subset2Map, PARTITION-SET-2, count_zeros, sort_block}
use Rattle.bptc_rust.specs.PBitHandling.{PBitHandling, SharedPBit, UniquePBits}
use Rattle.bptc_rust.specs.IndexList.{merge2}
use Rattle.bptc_rust.specs.Compressed as Rust
use Rattle.bptc_rust.specs.Encode.{possibilities, shared, unique, compress_rgb, compress_mode1, compress_mode3}
use Rattle.bptc_rust.specs.Internal.Merge.{merge_n}
use Rattle.bptc_rust.proofs.Table.{map_of, map_same}
use Rattle.bptc_rust.proofs.Members.{pixels, members}
use Rattle.bptc_rust.proofs.Sorting.{first-pixels, second-pixels}
use Rattle.bptc_rust.proofs.Digits.{digits}
use Rattle.bptc_rust.proofs.Swaps.{p_number}
use Rattle.bptc_rust.proofs.Blocks.{pack1, pack3}
use Rattle.bptc_rust.proofs.Merging.{merge_two}
use Rattle.bptc_rust.proofs.Closest.{indexes_in}
use Rattle.bptc_rust.proofs.Handling.{Handles, list1, list3, handles1, handles3, joined_number}
use Rattle.bptc_rust.proofs.Subsets.{colours_in, bits_of, summed, merges, best}

-- what packs a block: error, partition, endpoints, p-bits and indexes
abbrev Packer : Type 0
Packer = ℕ → ℕ → List Rgb → List Bool → ℕ → Compressed

-- the steps of both functions, over a mode of two subsets
abbrev steps : {State : Type 0} → Mode → PBitHandling State → (ℕ → ℕ → State) → (State → List Bool) → Packer → ℕ → List Rgb → PBits →
    List Rgb → Compressed
steps m p-bit fixed list pack part rgb ps block =
    let subset : Subset2Map = PARTITION-SET-2 part in
    let reordered : List Rgb = sort_block black subset block in
    let split-index : ℕ = count_zeros subset in
    let (first-s0, others-s0) = possibilities p-bit (fixed 0) ps in
    let (first-s1, others-s1) = possibilities p-bit (fixed 1) ps in
    let (error-s0, indexes-s0, p-s0) = compress_rgb p-bit m.channel_bits m.index_bits (take split-index reordered) (get_or rgb 0 black)
    (get_or rgb 1 black) first-s0 others-s0 in
    let (error-s1, indexes-s1, p-s1) = compress_rgb p-bit m.channel_bits m.index_bits (drop split-index reordered) (get_or rgb 2 black)
    (get_or rgb 3 black) first-s1 others-s1 in
    pack (error-s0 + error-s1) part rgb (list p-s0 ++ list p-s1) (merge2 m.index_bits subset indexes-s0 indexes-s1)

-- what such a function does in a mode
abbrev Packs : Mode → Packer → Type 0
Packs m pack =
    (f : Fields) (error : ℕ) (ps : List Bool) → f.p ≡ p_number ps → Plain m (block_fields f) → length ps ≡ p_bits m →
    pack error f.partition f.ends ps (digits m.index_bits f.indices)
    ≡ record { block = packed m (compressed m (block_fields f)); error = error }

-- over sixteen pixels that are opaque colours
module _ (m : Mode) (known : IsMode m) (part : ℕ) (ends cs : List Rgb) (px : List Rgba) (ps : PBits) (inside : part < 64)
    (sixteen : length cs ≡ 16)
    (same : (i : ℕ) → i < 16 → get_or px i clear ≡ opaque (get_or cs i black)) (bytes : (i : ℕ) → Below 256 (get_or cs i black))
    (kept : Kept m ends) where
  -- what finishing packs
  abbrev f : BlockFields
  f = chosen_fields squared_distance m part (without_alpha ends) ps px

  -- what it gives
  abbrev pub finished : Compressed
  finished = record { block = packed m (compressed m f); error = apart squared_distance m px f }

  -- the own p-bits of subset s
  abbrev q : ℕ → ℕ
  q = bits_of m known part ends cs px same bytes kept ps

  -- the error of subset s at its own p-bits
  abbrev error : ℕ → ℕ → ℕ
  error s n = error_in squared_distance m part (without_alpha ends) px s n

  -- and its indexes
  abbrev indexes : ℕ → ℕ → ℕ
  indexes s n = indexes_in m part ends cs s n

  module _ (two : m.subsets ≡ 2) (n₀ n₁ : ℕ) (e₀ : n₀ ≡ q 0) (e₁ : n₁ ≡ q 1) where
    errors-same : error 0 n₀ + error 1 n₁ ≡ apart squared_distance m px f
    errors-same =
        ap₂ (λ (x y : ℕ). error 0 x + error 1 y) e₀ e₁
        ∙ ap (λ (x : ℕ). error 0 (q 0) + x) (sym (add-zero (error 1 (q 1))))
        ∙ ap (λ (n : ℕ). sum (map (λ (s : ℕ). error s (q s)) (up_from 0 n))) (sym two)
        ∙ summed m known part ends cs px same bytes kept ps

    indexes-same : merge2 m.index_bits (map_of part) (indexes 0 n₀) (indexes 1 n₁) ≡ digits m.index_bits f.indices
    indexes-same =
        ap₂ (λ (x y : ℕ). merge2 m.index_bits (map_of part) (indexes 0 x) (indexes 1 y)) e₀ e₁
        ∙ merge_two m.index_bits part (λ (s : ℕ). indexes s (q s))
        ∙ ap (λ (n : ℕ). merge_n n m.index_bits (subset_of n part) (λ (s : ℕ). indexes s (q s))) (sym two)
        ∙ merges m known part ends cs px same bytes kept ps

  module _ {State : Type 0} (p-bit : PBitHandling State) (fixed : ℕ → ℕ → State) (list : State → List Bool)
      (handles : Handles m p-bit fixed list) where
    bits-same : m.subsets ≡ 2 → (a b : State) → p_number (list a) ≡ q 0 → p_number (list b) ≡ q 1 → f.p ≡ p_number (list a ++ list b)
    unfolding chosen_fields fields_at chosen_bits joined
    bits-same two a b e₀ e₁ =
        joined_same m q (λ (s : ℕ). p_number (list (state s))) (λ s h. each s (rw two at h))
        ∙ joined_number m (λ (s : ℕ). list (state s)) (λ s. handles.long (state s))
        ∙ ap (λ (n : ℕ). p_number (joined (λ (s : ℕ). list (state s)) n)) two
      where
        -- the state that subset s keeps
        state : ℕ → State
        state s = pick (eqb s 0) a b

        each : (s : ℕ) → s < 2 → q s ≡ p_number (list (state s))
        each = both (λ (s : ℕ). q s ≡ p_number (list (state s))) (sym e₀) (sym e₁)

    -- the steps of both functions
    agrees : (pack : Packer) → Packs m pack → Plain m f → steps m p-bit fixed list pack part ends ps cs ≡ finished
    unfolding chosen_fields fields_at
    agrees pack packs plain =
        let two : m.subsets ≡ 2 = two_subsets m known in
        let first : take (count_zeros (map_of part)) (sort_block black (map_of part) cs)
        ≡ colours_in m known part ends cs px same bytes kept 0 =
        first-pixels part inside cs sixteen
        ∙ ap (λ (n : ℕ). map (λ (i : ℕ). get_or cs i black) (members (subset_of n part) 0 pixels)) (sym two) in
        let second : drop (count_zeros (map_of part)) (sort_block black (map_of part) cs)
        ≡ colours_in m known part ends cs px same bytes kept 1 =
        second-pixels part inside cs sixteen
        ∙ ap (λ (n : ℕ). map (λ (i : ℕ). get_or cs i black) (members (subset_of n part) 1 pixels)) (sym two) in
        let b₀ = best m known part ends cs px same bytes kept p-bit fixed list handles ps 0 (omega arith) in
        let b₁ = best m known part ends cs px same bytes kept p-bit fixed list handles ps 1 (omega arith) in
        let bits : List Bool = list b₀.state ++ list b₁.state in
        let size : length bits ≡ p_bits m =
        length-append (list b₀.state) (list b₁.state) ∙ ap₂ (λ (x y : ℕ). x + y) (handles.long b₀.state) (handles.long b₁.state)
        ∙ rw two (omega arith) in
        rw (map_same part inside, first, second, b₀.result, b₁.result)
        (ap₂ (λ (e n : ℕ). pack e part ends bits n) (errors-same two _ _ b₀.least b₁.least) (indexes-same two _ _ b₀.least b₁.least)
        ∙ packs (record { partition = part; ends = ends; p = f.p; indices = f.indices }) (apart squared_distance m px f) bits
        (bits-same two b₀.state b₁.state b₀.least b₁.least) plain size)

-- compress_mode1 and compress_mode3, over sixteen pixels that are opaque colours
module _ (part : ℕ) (ends cs : List Rgb) (px : List Rgba) (ps : PBits) (inside : part < 64) (sixteen : length cs ≡ 16)
    (same : (i : ℕ) → i < 16 → get_or px i clear ≡ opaque (get_or cs i black)) (bytes : (i : ℕ) → Below 256 (get_or cs i black)) where
  pub rust1 : (kept : Kept mode1 ends) → Plain mode1 (chosen_fields squared_distance mode1 part (without_alpha ends) ps px) →
      compress_mode1 part ends ps cs ≡ finished mode1 is_mode1 part ends cs px ps inside sixteen same bytes kept
  unfolding compress_mode1
  rust1 kept = agrees mode1 is_mode1 part ends cs px ps inside sixteen same bytes kept SharedPBit shared list1 handles1 Rust.mode1 pack1

  pub rust3 : (kept : Kept mode3 ends) → Plain mode3 (chosen_fields squared_distance mode3 part (without_alpha ends) ps px) →
      compress_mode3 part ends ps cs ≡ finished mode3 is_mode3 part ends cs px ps inside sixteen same bytes kept
  unfolding compress_mode3
  rust3 kept = agrees mode3 is_mode3 part ends cs px ps inside sixteen same bytes kept UniquePBits unique list3 handles3 Rust.mode3 pack3
