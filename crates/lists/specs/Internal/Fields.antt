-- A field of a number by its place, the halves of a number, and values that fit their widths.
use Rattle.std.specs.Prelude.{ℕ, ◌+◌, ◌*◌, ◌/◌, ◌%◌, ◌^◌, ◌<◌, List, [], ◌∷◌}

-- the field of so many bits that begins at a bit
abbrev pub field_at : ℕ → ℕ → ℕ → ℕ
field_at n at width = n / 2 ^ at % 2 ^ width

-- the number of two halves of 64 bits
abbrev pub halves : ℕ → ℕ → ℕ
halves low high = high * 2 ^ 64 + low

-- as many values as widths, each below its power of two
pub data Fits : List ℕ → List ℕ → Type 0 where
  none : Fits [] []
  more : {w v : ℕ} {ws vs : List ℕ} → v < 2 ^ w → Fits ws vs → Fits (w ∷ ws) (v ∷ vs)
