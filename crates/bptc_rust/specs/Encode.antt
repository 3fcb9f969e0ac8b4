-- bc7.rs: compress_mode1 and compress_mode3, with the endpoints handed in.
use Rattle.std.specs.Prelude.{ℕ, ◌+◌, ◌*◌, Bool, List, [], ◌∷◌, get_or, take, drop}
use Rattle.bptc.specs.declared.Rgb.{Rgb}
use Rattle.bptc.specs.Colour.{clear, rgb_of}
use Rattle.bptc_block.specs.declared.PBits.{PBits}
use Rattle.bptc_block.specs.declared.PBits.TheVariants.{Free, Fixed}
use Rattle.bptc_block.specs.Compressed.{Compressed}
use Rattle.bptc_rust.specs.Subset2Map.{Subset2Map, PARTITION-SET-2, count_zeros, sort_block}
use Rattle.bptc_rust.specs.PBits.{p_bit_at}
use Rattle.bptc_rust.specs.PBitHandling.{PBitHandling, SharedPBit, UniquePBits, pick_best_of_directly}
use Rattle.bptc_rust.specs.IndexList.{merge2}
use Rattle.bptc_rust.specs.Closest.{closest_rgb}
use Rattle.bptc_rust.specs.Compressed.{mode1, mode3}

-- compress_rgb from its p-bits on: error, indexes and state. Fixed p-bits are the only possibility, free ones are ALL.
unfoldable pub compress_rgb : {State : Type 0} → PBitHandling State → ℕ → ℕ → List Rgb → Rgb → Rgb → State → List State → ℕ × ℕ × State
compress_rgb {State} p-bit B I block e0 e1 first others =
    pick_best_of_directly first others
    (λ (p : State).
    let (c0, c1) = p-bit.promote_rgb p B e0 e1 in
    let (indexes, error) = closest_rgb I c0 c1 block in
    (error, indexes))

-- the possibilities of a subset: those of ALL, or the one that is fixed
abbrev pub possibilities : {State : Type 0} → PBitHandling State → (ℕ → State) → PBits → State × List State
possibilities p-bit fixed Free = (p-bit.first, p-bit.others)
possibilities p-bit fixed (Fixed p) = (fixed p, [])

-- the p-bit of subset s in mode 1
abbrev pub shared : ℕ → ℕ → Bool
shared s p = p_bit_at p s

-- the p-bits of subset s in mode 3
abbrev pub unique : ℕ → ℕ → Bool × Bool
unique s p = (p_bit_at p (2 * s), p_bit_at p (2 * s + 1))

-- endpoint k
abbrev at : List Rgb → ℕ → Rgb
at rgb k = get_or rgb k (rgb_of clear)

-- mode 1
unfoldable pub compress_mode1 : ℕ → List Rgb → PBits → List Rgb → Compressed
compress_mode1 partition rgb ps block =
    let subset : Subset2Map = PARTITION-SET-2 partition in
    let reordered : List Rgb = sort_block (rgb_of clear) subset block in
    let split-index : ℕ = count_zeros subset in
    let (first-s0, others-s0) = possibilities SharedPBit (shared 0) ps in
    let (first-s1, others-s1) = possibilities SharedPBit (shared 1) ps in
    let (error-s0, indexes-s0, p-s0) = compress_rgb SharedPBit 6 3 (take split-index reordered) (at rgb 0) (at rgb 1) first-s0 others-s0 in
    let (error-s1, indexes-s1, p-s1) = compress_rgb SharedPBit 6 3 (drop split-index reordered) (at rgb 2) (at rgb 3) first-s1 others-s1 in
    mode1 (error-s0 + error-s1) partition rgb (p-s0 ∷ p-s1 ∷ []) (merge2 3 subset indexes-s0 indexes-s1)

-- mode 3
unfoldable pub compress_mode3 : ℕ → List Rgb → PBits → List Rgb → Compressed
compress_mode3 partition rgb ps block =
    let subset : Subset2Map = PARTITION-SET-2 partition in
    let reordered : List Rgb = sort_block (rgb_of clear) subset block in
    let split-index : ℕ = count_zeros subset in
    let (first-s0, others-s0) = possibilities UniquePBits (unique 0) ps in
    let (first-s1, others-s1) = possibilities UniquePBits (unique 1) ps in
    let (error-s0, indexes-s0, p-s0) = compress_rgb UniquePBits 7 2 (take split-index reordered) (at rgb 0) (at rgb 1) first-s0 others-s0 in
    let (error-s1, indexes-s1, p-s1) = compress_rgb UniquePBits 7 2 (drop split-index reordered) (at rgb 2) (at rgb 3) first-s1 others-s1 in
    mode3 (error-s0 + error-s1) partition rgb (p-s0.0 ∷ p-s0.1 ∷ p-s1.0 ∷ p-s1.1 ∷ []) (merge2 2 subset indexes-s0 indexes-s1)
