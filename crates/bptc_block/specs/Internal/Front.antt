-- The fields of a block of two subsets in three channels, as the code writes and reads them.
use Rattle.std.specs.Prelude.{ℕ, ◌+◌, ◌-◌, ◌*◌, ◌^◌, List, ◌∷◌, ◌++◌, map, eqb, replicate}
use Rattle.lists.specs.Tests.{pick}
use Rattle.lists.specs.Internal.Fields.{field_at}
use Rattle.bptc.specs.declared.Rgb.{Rgb}

-- an index has a bit less at pixel 0 and at the anchor of subset 1
abbrev pub index_width_by : ℕ → ℕ → ℕ → ℕ
index_width_by bits anchor i = pick (eqb i 0) (bits - 1) (pick (eqb i anchor) (bits - 1) bits)

-- the widths of mode, partition, reds, greens and blues, by a mode's number and the bits of a channel, and those of what follows
abbrev pub front_widths : ℕ → ℕ → List ℕ → List ℕ
front_widths number bits rest = (number + 1) ∷ (6 ∷ (replicate 12 bits ++ rest))

-- four reds, four greens and four blues, and what follows
abbrev pub rgb_values : List Rgb → List ℕ → List ℕ
rgb_values ends rest =
    let reds : List ℕ = map (λ (c : Rgb). c.r) ends in
    let greens : List ℕ = map (λ (c : Rgb). c.g) ends in
    let blues : List ℕ = map (λ (c : Rgb). c.b) ends in
    reds ++ (greens ++ (blues ++ rest))

-- the values of mode, partition and channels, and those of what follows
abbrev pub front_values : ℕ → ℕ → List Rgb → List ℕ → List ℕ
front_values number part ends rest = (2 ^ number) ∷ (part ∷ rgb_values ends rest)

-- endpoint k, its channels of some bits from a bit on: four reds, four greens, four blues
abbrev pub rgb_from : ℕ → ℕ → ℕ → ℕ → Rgb
rgb_from n at bits k = record { r = field_at n (at + k * bits) bits; g = field_at n (at + (4 + k) * bits) bits; b = field_at n (at + (8 + k) * bits) bits }
