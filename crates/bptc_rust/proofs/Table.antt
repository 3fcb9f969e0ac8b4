-- The Rust's partition texts are the chapter's masks and anchors.
use Prim.Native.Nat.{ℕ, ◌<◌, ◌/◌, ◌^◌}
use mathlib.Core.Path.{◌≡◌}
use mathlib.Core.Bool.{Bool, true}
use mathlib.Core.List.{List, [], ◌∷◌}
use lib.Bits.{and_mask}
use lib.Dec.{T, eqb, eqb→eq}
use lib.ListN.{get_or}
use Rattle.lists.proofs.Tables.{tested, all_true, each-true}
use Rattle.bptc.specs.Partition.{masks, anchors, table, digits_of, subset_of, anchor_of}
use Rattle.bptc.specs.Internal.Masks.{mask_of}
use Rattle.bptc_rust.specs.Subset2Map.{Subset2Map, subset2, texts, PARTITION-SET-2, get_subset_index}

-- a partition as the chapter's tables have it
unfoldable pub map_of : ℕ → Subset2Map
map_of part = record { subset_indexes = mask_of part; fixup_index_2 = anchor_of 2 part 1 }

-- the Rust's text of a partition has the chapter's mask and anchor
pub record SameText (part : ℕ) : Type 0 where
  pub mask : (PARTITION-SET-2 part).subset_indexes ≡ mask_of part
  pub anchor : (PARTITION-SET-2 part).fixup_index_2 ≡ anchor_of 2 part 1

-- both tests of a partition
abbrev tests : ℕ → List Bool
tests p = eqb (PARTITION-SET-2 p).subset_indexes (mask_of p) ∷ eqb (PARTITION-SET-2 p).fixup_index_2 (anchor_of 2 p 1) ∷ []

-- every partition
pub texts-same : (part : ℕ) → part < 64 → SameText part
unfolding PARTITION-SET-2 subset2 texts anchor_of digits_of table masks anchors
texts-same part h =
    let holds : (i : ℕ) → T (get_or (tests part) i true) = each-true (tests part) (tested (λ (p : ℕ). all_true (tests p)) 64 tt part h) in
    record { mask = eqb→eq _ _ (holds 0); anchor = eqb→eq _ _ (holds 1) }

-- PARTITION_SET_2 is these tables
pub map_same : (part : ℕ) → part < 64 → PARTITION-SET-2 part ≡ map_of part
unfolding map_of
map_same part h = λ i. record { subset_indexes = (texts-same part h).mask i; fixup_index_2 = (texts-same part h).anchor i }

-- get_subset_index
pub subset-same : (part i : ℕ) → get_subset_index (map_of part) i ≡ subset_of 2 part i
unfolding get_subset_index map_of subset_of
subset-same part i = and_mask (mask_of part / 2 ^ i) 1
