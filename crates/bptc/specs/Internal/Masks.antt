-- What the code's tables hold of a partition into two subsets.
use Rattle.std.specs.Prelude.{ℕ, ◌+◌, ◌-◌, ◌*◌, ◌^◌, map, eqb, replicate}
use Rattle.lists.specs.Tests.{pick}
use Rattle.lists.specs.Rows.{up_from}
use Rattle.lists.specs.Internal.Ones.{ones_below}
use Rattle.lists.specs.Bits.{join}
use Rattle.bptc.specs.Partition.{digits_of, subset_of, anchor_of}

-- the mask of a partition: bit i is the subset of pixel i
abbrev pub mask_of : ℕ → ℕ
mask_of p = digits_of 2 p

-- how many pixels lie in subset 1
unfoldable pub size_of : ℕ → ℕ
size_of p = ones_below 16 (mask_of p)

-- an index of so many bits: all ones at a pixel of subset 1, and 0 elsewhere
abbrev pub ones_at : ℕ → ℕ → ℕ → ℕ
ones_at bits p i = pick (eqb (subset_of 2 p i) 1) (2 ^ bits - 1) 0

-- sixteen of them as one number
unfoldable pub ones_of : ℕ → ℕ → ℕ
ones_of bits p = join (replicate 16 bits) (map (ones_at bits p) (up_from 0 16))

-- these, and the anchor of subset 1 above them
unfoldable pub entry_of : ℕ → ℕ → ℕ
entry_of bits p = anchor_of 2 p 1 * 2 ^ (16 * bits) + ones_of bits p
