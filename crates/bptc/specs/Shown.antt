-- Khronos Data Format Specification, BPTC: the colour that a stored endpoint shows with the p-bits of its subset.
use Rattle.std.specs.Prelude.{ℕ, ◌+◌, ◌-◌, ◌*◌, ◌/◌, ◌%◌, ◌^◌, map, eqb, ltb, replicate}
use Rattle.lists.specs.Tests.{pick}
use Rattle.lists.specs.Rows.{up_from}
use Rattle.lists.specs.Digits.{bit}
use Rattle.lists.specs.Bits.{join}
use Rattle.bptc.specs.Mode.{Mode}
use Rattle.bptc.specs.Colour.{Rgba, colour_by, channel}

-- subset s's own p-bits in the number that holds them all
unfoldable pub own : Mode → ℕ → ℕ → ℕ
own m p s = p / 2 ^ (s * m.own_bits) % 2 ^ m.own_bits

-- the number that holds the subsets' own p-bits
unfoldable pub joined_own : Mode → (ℕ → ℕ) → ℕ
joined_own m q = join (replicate m.subsets m.own_bits) (map q (up_from 0 m.subsets))

-- the p-bit of an endpoint out of its subset's own: h is 0 for the lower endpoint and 1 for the upper
unfoldable pub own_bit : ℕ → ℕ → ℕ → ℕ
own_bit own q h = pick (eqb own 2) (bit q h) q

-- n bits made eight: they stand on top, and their own top bits again below them
unfoldable pub widen : ℕ → ℕ → ℕ
widen n v = v * 2 ^ (8 - n) + v / 2 ^ (2 * n - 8)

-- the byte that a stored channel shows: a p-bit is its lowest bit
unfoldable pub shown_by : ℕ → ℕ → ℕ → ℕ → ℕ
shown_by bits own p e = pick (eqb own 0) (widen bits e) (widen (bits + 1) (2 * e + p))

-- the colour that an endpoint shows by its p-bit: alpha is 255 in a mode without it
unfoldable pub end_by : Mode → ℕ → Rgba → Rgba
end_by m p c = colour_by (λ (j : ℕ). pick (ltb j m.channels) (shown_by m.channel_bits m.own_bits p (channel j c)) 255)

-- the colour that an endpoint shows by its subset's own p-bits
abbrev pub end_shown : Mode → ℕ → ℕ → Rgba → Rgba
end_shown m q h c = end_by m (own_bit m.own_bits q h) c
