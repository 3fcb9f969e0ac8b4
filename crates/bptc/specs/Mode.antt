-- Khronos Data Format Specification, BPTC: what tells one mode from another.
use Rattle.std.specs.Prelude.{ℕ, ◌-◌, ◌*◌, ◌^◌, ◌≡◌, ◌⊎◌, List, [], ◌∷◌, eqb, get_or}
use Rattle.lists.specs.Tests.{pick}

pub record Mode : Type 0 where
  pub number : ℕ
  pub subsets : ℕ
  pub partition_bits : ℕ
  -- 3, or 4 with alpha
  pub channels : ℕ
  pub channel_bits : ℕ
  -- the p-bits of a subset: 0, 1 for both endpoints, or 2, one for each
  pub own_bits : ℕ
  pub index_bits : ℕ
  -- of the upper endpoint, in parts of 64, at each index
  pub weights : List ℕ

-- the weights at indices of two bits
abbrev pub weights2 : List ℕ
weights2 = 0 ∷ 21 ∷ 43 ∷ 64 ∷ []

-- the weights at indices of three bits
abbrev pub weights3 : List ℕ
weights3 = 0 ∷ 9 ∷ 18 ∷ 27 ∷ 37 ∷ 46 ∷ 55 ∷ 64 ∷ []

-- mode 1
abbrev pub mode1 : Mode
mode1 = record { number = 1; subsets = 2; partition_bits = 6; channels = 3; channel_bits = 6; own_bits = 1; index_bits = 3; weights = weights3 }

-- mode 3
abbrev pub mode3 : Mode
mode3 = record { number = 3; subsets = 2; partition_bits = 6; channels = 3; channel_bits = 7; own_bits = 2; index_bits = 2; weights = weights2 }

-- the modes that the calls answer for, in the order of their numbers
abbrev pub modes : List Mode
modes = mode1 ∷ mode3 ∷ []

-- one of the modes
abbrev pub IsMode : Mode → Type 0
IsMode m = (m ≡ mode1) ⊎ (m ≡ mode3)

-- the first of a list that has a number, and m where none has
abbrev pub numbered_in : ℕ → Mode → List Mode → Mode
numbered_in n m [] = m
numbered_in n m (k ∷ ks) = pick (eqb n k.number) k (numbered_in n m ks)

-- the mode of a number; no call gets to that of a number that has none
unfoldable pub mode_numbered : ℕ → Mode
mode_numbered n = numbered_in n mode3 modes

-- the endpoints of a block, two for each subset
abbrev pub endpoints : Mode → ℕ
endpoints m = 2 * m.subsets

-- the p-bits of all subsets
abbrev pub p_bits : Mode → ℕ
p_bits m = m.subsets * m.own_bits

-- the weight at index i: 0 past the largest
abbrev pub weight : Mode → ℕ → ℕ
weight m i = get_or m.weights i 0

-- the largest index of a mode
unfoldable pub largest : Mode → ℕ
largest m = 2 ^ m.index_bits - 1
