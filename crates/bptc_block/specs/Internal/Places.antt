-- An endpoint in a block's number, by the places of its channels.
use Rattle.std.specs.Prelude.{ℕ, ◌+◌, ◌*◌, ltb}
use Rattle.lists.specs.Tests.{pick, and}
use Rattle.lists.specs.Internal.Fields.{field_at}
use Rattle.bptc.specs.Mode.{Mode, endpoints}
use Rattle.bptc.specs.Colour.{Rgba, colour_by}

-- the bit at which the channels begin
abbrev pub front_bits : Mode → ℕ
front_bits m = m.number + 1 + m.partition_bits

-- endpoint k, each channel by its place
unfoldable pub end_from : Mode → ℕ → ℕ → Rgba
end_from m n k =
    colour_by
    (λ (j : ℕ).
    pick (and (ltb k (endpoints m)) (ltb j m.channels)) (field_at n (front_bits m + (j * endpoints m + k) * m.channel_bits) m.channel_bits) 0)
