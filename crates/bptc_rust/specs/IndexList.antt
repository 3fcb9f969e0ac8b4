-- bc7.rs: IndexList<I>, a number of 64 bits with sixteen indexes of I bits.
use Rattle.std.specs.Prelude.{ℕ, ◌+◌, ◌-◌, ◌*◌, List, eqb}
use Rattle.std.specs.Int.Bits.{bit_and, bit_or}
use Rattle.lists.specs.Tests.{pick}
use Rattle.lists.specs.Rows.{up_from}
use Rattle.bptc_rust.specs.Words.{shl, shr, loop, enumerate}
use Rattle.bptc_rust.specs.Subset2Map.{Subset2Map, get_subset_index}

-- the largest index
abbrev pub MAX-INDEX : ℕ → ℕ
MAX-INDEX I = shl 8 1 I - 1

-- all bits of sixteen indexes
abbrev pub INDEXES-MASK : ℕ → ℕ
INDEXES-MASK I = shl 64 1 (I * 16) - 1

-- get
unfoldable pub get : ℕ → ℕ → ℕ → ℕ
get I self index = bit_and (shr self (index * I)) (MAX-INDEX I)

-- set, at a place that is 0
unfoldable pub put : ℕ → ℕ → ℕ → ℕ → ℕ
put I self index value = bit_or self (shl 64 value (index * I))

-- sixteen indexes, set one by one
unfoldable pub index_list : ℕ → List ℕ → ℕ
index_list I indexes = loop (enumerate 0 indexes) 0 (λ (self : ℕ) ((i, value) : ℕ × ℕ). put I self i value)

-- the indexes of both subsets, each where its pixel stands: indexes, s0_index and s1_index
unfoldable pub merge2 : ℕ → Subset2Map → ℕ → ℕ → ℕ
merge2 I subset s0 s1 =
    (loop (up_from 0 16) (0, 0, 0)
    (λ ((indexes, s0-index, s1-index) : ℕ × ℕ × ℕ) (i : ℕ).
    pick (eqb (get_subset_index subset i) 0)
    (put I indexes i (get I s0 s0-index), s0-index + 1, s1-index)
    (put I indexes i (get I s1 s1-index), s0-index, s1-index + 1))
    ).0
