-- Khronos Data Format Specification, BPTC: the partitions of a block's pixels into subsets, and the anchor of each subset.
use Rattle.std.specs.Prelude.{ℕ, ◌/◌, ◌%◌, ◌^◌, List, [], ◌∷◌, eqb, get_or}
use Rattle.lists.specs.Tests.{pick}
use Rattle.bptc.specs.Mode.{Mode}

-- two subsets: bit i of an entry is the subset of pixel i
unfoldable pub masks : List ℕ
masks = 52428 ∷ 34952 ∷ 61166 ∷ 60616 ∷ 51328 ∷ 65260 ∷ 65224 ∷ 60544 ∷ 51200 ∷ 65516 ∷ 65152 ∷ 59392 ∷ 65512 ∷ 65280 ∷ 65520 ∷ 61440 ∷ 63248 ∷ 142 ∷ 28928 ∷ 2254 ∷ 140 ∷ 29456 ∷ 12544 ∷ 36046 ∷ 2188 ∷ 12560 ∷ 26214 ∷ 13932 ∷ 6120 ∷ 4080 ∷ 29070 ∷ 14748 ∷ 43690 ∷ 61680 ∷ 23130 ∷ 13260 ∷ 15420 ∷ 21930 ∷ 38550 ∷ 42330 ∷ 29646 ∷ 5064 ∷ 12876 ∷ 15324 ∷ 27030 ∷ 49980 ∷ 39270 ∷ 1632 ∷ 626 ∷ 1252 ∷ 20032 ∷ 10016 ∷ 51510 ∷ 37740 ∷ 14790 ∷ 25500 ∷ 37686 ∷ 40134 ∷ 33150 ∷ 59160 ∷ 52464 ∷ 4044 ∷ 30532 ∷ 60962 ∷ []

-- the anchor pixel of subset 1, of two
unfoldable pub anchors : List ℕ
anchors = 15 ∷ 15 ∷ 15 ∷ 15 ∷ 15 ∷ 15 ∷ 15 ∷ 15 ∷ 15 ∷ 15 ∷ 15 ∷ 15 ∷ 15 ∷ 15 ∷ 15 ∷ 15 ∷ 15 ∷ 2 ∷ 8 ∷ 2 ∷ 2 ∷ 8 ∷ 8 ∷ 15 ∷ 2 ∷ 8 ∷ 2 ∷ 2 ∷ 8 ∷ 8 ∷ 2 ∷ 2 ∷ 15 ∷ 15 ∷ 6 ∷ 8 ∷ 2 ∷ 8 ∷ 15 ∷ 15 ∷ 2 ∷ 8 ∷ 2 ∷ 2 ∷ 2 ∷ 15 ∷ 15 ∷ 6 ∷ 6 ∷ 2 ∷ 6 ∷ 8 ∷ 15 ∷ 15 ∷ 2 ∷ 2 ∷ 15 ∷ 15 ∷ 15 ∷ 15 ∷ 15 ∷ 2 ∷ 2 ∷ 15 ∷ []

-- the partitions into n subsets: digit i in base n is the subset of pixel i; one subset has no table, and every digit is 0
unfoldable pub table : ℕ → List ℕ
table n = pick (eqb n 2) masks []

-- the number of a partition whose digits are the subsets of its pixels
unfoldable pub digits_of : ℕ → ℕ → ℕ
digits_of n part = get_or (table n) part 0

-- the subset of pixel i
unfoldable pub subset_of : ℕ → ℕ → ℕ → ℕ
subset_of n part i = digits_of n part / n ^ i % n

-- a figure at a pixel of subset s, and 0 elsewhere
abbrev pub in_subset : ℕ → ℕ → ℕ → (ℕ → ℕ) → ℕ → ℕ
in_subset n part s f i = pick (eqb (subset_of n part i) s) (f i) 0

-- the anchor of subset s: pixel 0 for subset 0
unfoldable pub anchor_of : ℕ → ℕ → ℕ → ℕ
anchor_of n part s = get_or (0 ∷ get_or anchors part 0 ∷ []) s 0

-- the subset of pixel i in a mode
abbrev pub subset_in : Mode → ℕ → ℕ → ℕ
subset_in m part i = subset_of m.subsets part i

-- the anchor of subset s in a mode
abbrev pub anchor_in : Mode → ℕ → ℕ → ℕ
anchor_in m part s = anchor_of m.subsets part s
