-- A subset is swapped exactly if the index of its anchor has its top bit set: its endpoints change places, with p-bits of their own, and
-- each of its indices is taken from the largest, so that the anchor's top bit is 0 and need not be stored.
use Rattle.std.specs.Prelude.{ℕ, ◌+◌, ◌-◌, ◌*◌, ◌/◌, ◌%◌, ◌^◌, Bool, map, leb, eqb, get_or, replicate}
use Rattle.lists.specs.Tests.{pick, and}
use Rattle.lists.specs.Rows.{up_from, written}
use Rattle.bptc_block.specs.Fields.{BlockFields, places}
use Rattle.bptc.specs.Mode.{Mode, endpoints, largest}
use Rattle.bptc.specs.Partition.{subset_in, anchor_in}
use Rattle.bptc.specs.Colour.{clear, stored}
use Rattle.bptc.specs.Shown.{own, joined_own}

-- an index has its top bit set
abbrev pub top_set : Mode → ℕ → Bool
top_set m i = leb (2 ^ (m.index_bits - 1)) i

-- whether subset s is swapped: the index of its anchor has its top bit set
unfoldable pub swaps : Mode → BlockFields → ℕ → Bool
swaps m f s = top_set m (get_or f.indices (anchor_in m f.partition s) 0)

-- the own p-bits of a subset, swapped or not: two change places, and one stays
unfoldable pub swapped_own : Mode → Bool → ℕ → ℕ
swapped_own m t q = pick (and t (eqb m.own_bits 2)) (q % 2 * 2 + q / 2) q

-- the endpoint that comes to place k
abbrev pub swapped_place : Bool → ℕ → ℕ
swapped_place t k = pick t (2 * (k / 2) + (1 - k % 2)) k

-- an index, swapped or not
abbrev pub swapped_index : Mode → Bool → ℕ → ℕ
swapped_index m t x = pick t (largest m - x) x

-- the fields with some subsets swapped, and with what the mode does not look at made 0
unfoldable pub swapped_by : Mode → (ℕ → Bool) → BlockFields → BlockFields
swapped_by m t f =
    record {
      partition = f.partition;
      ends = written (λ (k : ℕ). stored m (get_or f.ends (swapped_place (t (k / 2)) k) clear)) (endpoints m) (replicate places clear);
      p = joined_own m (λ (s : ℕ). swapped_own m (t s) (own m f.p s));
      indices = map (λ (i : ℕ). swapped_index m (t (subset_in m f.partition i)) (get_or f.indices i 0)) (up_from 0 16);
    }

-- the fields as a block holds them
unfoldable pub compressed : Mode → BlockFields → BlockFields
compressed m f = swapped_by m (swaps m f) f
