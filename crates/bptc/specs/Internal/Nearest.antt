-- The index that a pixel of three channels gets.
use Rattle.std.specs.Prelude.{ℕ, List}
use Rattle.bptc.specs.declared.Rgb.{Rgb}
use Rattle.bptc.specs.Mode.{Mode, largest}
use Rattle.bptc.specs.Palette.{nearest_by}
use Rattle.bptc.specs.Internal.Colour.{dist_sq}
use Rattle.bptc.specs.Internal.Palette.{palette_colour}

-- closest_rgb at one pixel: in subset s at given p-bits
unfoldable pub nearest_rgb : Mode → List Rgb → ℕ → ℕ → Rgb → ℕ
nearest_rgb m ends p s c = nearest_by dist_sq (palette_colour m ends p s) (largest m) c
