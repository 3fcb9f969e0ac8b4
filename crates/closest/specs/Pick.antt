-- What the search gives at fixed p-bits, or at the first of least error where they are free.
use Rattle.std.specs.Prelude.{ℕ, ◌+◌, List, get_or}
use Rattle.std.specs.Int.Bits.{bit_and, bit_xor}
use Rattle.bptc.specs.declared.Rgb.{Rgb}
use Rattle.lists.specs.Rows.{over_pixels}
use Rattle.bptc.specs.Mode.{Mode}
use Rattle.bptc.specs.Internal.Masks.{mask_of}
use Rattle.bptc.specs.Colour.{without_alpha, pixels_of, squared_distance}
use Rattle.bptc.specs.Internal.Colour.{black, colours_of}
use Rattle.bptc.specs.Internal.Closest.{closest_in}
use Rattle.bptc_block.specs.declared.PBits.{PBits}
use Rattle.bptc_block.specs.declared.PBits.TheVariants.{Free, Fixed}
use Rattle.bptc_block.specs.Finish.{chosen_bits}
use Rattle.closest.specs.declared.pick.Picked.{Picked}
use Rattle.keys.specs.Keys.{bias}
use Rattle.closest.specs.Found.{indexes_in}

-- what all pixels are raised by
unfoldable pub bias_all : List Rgb → ℕ
bias_all cs = over_pixels (λ (i : ℕ). bias (get_or cs i black))

-- the bits of b where those of a third number are set, and else those of a
abbrev pub mixed : ℕ → ℕ → ℕ → ℕ
mixed a b ones = bit_xor a (bit_and (bit_xor a b) ones)

-- the p-bits that finishing gives: those that are fixed stand as they are
abbrev pub bits_for : Mode → ℕ → List Rgb → PBits → List ℕ → ℕ
bits_for m part ends Free px = chosen_bits squared_distance m part (without_alpha ends) Free (pixels_of 3 px)
bits_for m part ends (Fixed p) px = p

-- the indices at given p-bits, the errors of both subsets in sum, raised, and these p-bits
unfoldable pub picked_at : Mode → ℕ → List Rgb → List ℕ → ℕ → Picked
picked_at m part ends px p =
    let cs : List Rgb = colours_of px in
    record {
      indexes = indexes_in m ends p (mask_of part) cs;
      sum = (closest_in m part ends p 0 cs).error + (closest_in m part ends p 1 cs).error + bias_all cs;
      p = p;
    }

-- at the p-bits that finishing gives
abbrev pub picked_for : Mode → ℕ → List Rgb → PBits → List ℕ → Picked
picked_for m part ends ps px = picked_at m part ends px (bits_for m part ends ps px)
