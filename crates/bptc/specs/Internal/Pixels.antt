-- A colour as one number.
use Rattle.std.specs.Prelude.{ℕ, ◌+◌, ◌*◌, ◌/◌, ◌%◌}
use Rattle.bptc.specs.declared.Rgb.{Rgb}

-- red lowest, then green, then blue
unfoldable pub pixel_word : Rgb → ℕ
pixel_word c = c.r + c.g * 256 + c.b * 65536

-- the colour that such a number stands for
unfoldable pub pixel_of : ℕ → Rgb
pixel_of x = record { r = x % 256; g = x / 256 % 256; b = x / 65536 % 256 }
