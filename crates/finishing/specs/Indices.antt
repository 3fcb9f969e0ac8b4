-- What the search gives for a candidate: the nearest indices, their error and the p-bits.
use Rattle.std.specs.Prelude.{ℕ, ◌+◌, List}
use Rattle.bptc.specs.declared.Rgb.{Rgb}
use Rattle.bptc.specs.Mode.{Mode}
use Rattle.bptc.specs.Internal.Masks.{mask_of}
use Rattle.bptc.specs.Internal.Colour.{colours_of}
use Rattle.bptc.specs.Internal.Closest.{closest_in}
use Rattle.bptc_block.specs.declared.PBits.{PBits}
use Rattle.closest.specs.Found.{indexes_in}
use Rattle.closest.specs.Pick.{bits_for}
use Rattle.finishing.specs.declared.Indices.{Indices}

-- the indices at given p-bits, the errors of both subsets in sum, and these p-bits
unfoldable pub nearest_at : Mode → ℕ → List Rgb → List ℕ → ℕ → Indices
nearest_at m part ends px p =
    let cs : List Rgb = colours_of px in
    record {
      indexes = indexes_in m ends p (mask_of part) cs;
      error = (closest_in m part ends p 0 cs).error + (closest_in m part ends p 1 cs).error;
      p = p;
    }

-- at the p-bits that finishing gives
abbrev pub nearest_for : Mode → ℕ → List Rgb → PBits → List ℕ → Indices
nearest_for m part ends ps px = nearest_at m part ends px (bits_for m part ends ps px)
