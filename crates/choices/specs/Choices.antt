-- The four choices of mode 3's p-bits as four columns.
use Rattle.std.specs.Prelude.{ℕ, ◌/◌, ◌%◌, List, [], ◌∷◌, get_or}
use Rattle.bptc.specs.declared.Rgb.{Rgb}
use Rattle.bptc.specs.Mode.{mode3}
use Rattle.bptc.specs.Internal.Palette.{palette_colour}

-- the p-bits of a column, alike in both subsets
unfoldable pub column_bits : ℕ → ℕ
column_bits c = get_or (0b0000 ∷ (0b1010 ∷ (0b0101 ∷ (0b1111 ∷ [])))) c 0

-- the colour at place k of the four choices: of subset k / 16, at index k / 4 % 4, in column k % 4
unfoldable pub choice_colour : List Rgb → ℕ → Rgb
choice_colour ends k = palette_colour mode3 ends (column_bits (k % 4)) (k / 16) (k / 4 % 4)
