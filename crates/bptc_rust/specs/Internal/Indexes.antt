-- bc7.rs: compress_p1, compress_p2 and compress_p3 as one: the subsets flipped in the order of their numbers, and then the anchors' top
-- bits taken out from the last pixel down.
use Rattle.std.specs.Prelude.{ℕ, zero, suc, ◌-◌, ◌^◌, Bool, List, [], ◌∷◌, map, eqb, ltb, replicate}
use Rattle.lists.specs.Tests.{pick}
use Rattle.lists.specs.Rows.{up_from}
use Rattle.lists.specs.Bits.{join}
use Rattle.bptc_rust.specs.CompressedIndexList.{ensure_msb_zero, compress_single_index}
use Rattle.bptc.specs.Mode.{Mode}
use Rattle.bptc.specs.Partition.{subset_in, anchor_in}

-- the anchors from the last pixel down: of three subsets fixup_index_3, fixup_index_2 and 0, which are in the order of pixels
unfoldable pub fixups : Mode → ℕ → List ℕ
fixups m part =
    let a : ℕ = anchor_in m part 1 in
    let b : ℕ = anchor_in m part 2 in
    pick (eqb m.subsets 1) (0 ∷ []) (pick (eqb m.subsets 2) (a ∷ (0 ∷ [])) (pick (ltb a b) (b ∷ (a ∷ (0 ∷ []))) (a ∷ (b ∷ (0 ∷ [])))))

-- the anchors' bits taken out, one after the other
unfoldable pub bits_out : ℕ → List ℕ → ℕ → ℕ
bits_out I [] n = n
bits_out I (a ∷ ps) n = bits_out I ps (compress_single_index I n a)

-- a subset's mask: all ones at each of its indexes
unfoldable pub subset_mask : Mode → ℕ → ℕ → ℕ
subset_mask m part s = join (replicate 16 m.index_bits) (map (λ (i : ℕ). pick (eqb (subset_in m part i) s) (2 ^ m.index_bits - 1) 0) (up_from 0 16))

-- k subsets from s on flipped, each where the top bit of its anchor's index is set
unfoldable pub flip_from : Mode → ℕ → ℕ → ℕ → ℕ → ℕ
flip_from m part zero s n = n
flip_from m part (suc k) s n = flip_from m part k (suc s) (ensure_msb_zero m.index_bits n (anchor_in m part s) (subset_mask m part s)).0

-- the compressed indexes
unfoldable pub compress_indexes : Mode → ℕ → ℕ → ℕ
compress_indexes m part n = bits_out m.index_bits (fixups m part) (flip_from m part m.subsets 0 n)

-- whether each of them was
unfoldable pub flips_from : Mode → ℕ → ℕ → ℕ → ℕ → List Bool
flips_from m part zero s n = []
flips_from m part (suc k) s n =
    let (n', swap) = ensure_msb_zero m.index_bits n (anchor_in m part s) (subset_mask m part s) in
    swap ∷ flips_from m part k (suc s) n'
