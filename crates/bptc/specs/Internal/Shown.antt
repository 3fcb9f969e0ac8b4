-- The colour of three channels that a stored endpoint and its p-bit show, as the code has it.
use Rattle.std.specs.Prelude.{ℕ, ◌+◌, ◌*◌, ◌/◌, ◌^◌, ◌<◌, List, get_or}
use Rattle.lists.specs.Digits.{bit}
use Rattle.bptc.specs.declared.Rgb.{Rgb}
use Rattle.bptc.specs.Mode.{Mode, p_bits}
use Rattle.bptc.specs.Shown.{widen}
use Rattle.bptc.specs.Internal.Colour.{black, each, Below}

-- the p-bit of endpoint k in the number that holds them all: bit k / 2 of two, bit k of four
abbrev pub p_bit_by : ℕ → ℕ → ℕ → ℕ
p_bit_by p_bits p k = bit p (k * p_bits / 4)

-- the p-bit of endpoint k in a mode
abbrev pub p_bit : Mode → ℕ → ℕ → ℕ
p_bit m p k = p_bit_by (p_bits m) p k

-- p_promote: the byte that a channel stored in some bits shows, with the p-bit as its lowest bit
unfoldable pub p_shown : ℕ → ℕ → ℕ → ℕ
p_shown bits p e = widen (bits + 1) (2 * e + p)

-- the byte that a stored channel of a mode shows
unfoldable pub shown : Mode → ℕ → ℕ → ℕ
shown m p e = p_shown m.channel_bits p e

-- the colour that endpoint k shows, by the bits of a channel and the number of p-bits
unfoldable pub end_shown_by : ℕ → ℕ → List Rgb → ℕ → ℕ → Rgb
end_shown_by bits p_bits ends p k = each (p_shown bits (p_bit_by p_bits p k)) (get_or ends k black)

-- the colour that endpoint k of a mode shows
unfoldable pub end_rgb : Mode → List Rgb → ℕ → ℕ → Rgb
end_rgb m ends p k = end_shown_by m.channel_bits (p_bits m) ends p k

-- the four endpoints are within the mode's width
abbrev pub Stored : Mode → List Rgb → Type 0
Stored m ends = (k : ℕ) → k < 4 → Below (2 ^ m.channel_bits) (get_or ends k black)
