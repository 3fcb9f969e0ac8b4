-- Colours of three channels, as the code has them.
use Rattle.std.specs.Prelude.{ℕ, ◌+◌, ◌*◌, ◌<◌, List, [], ◌∷◌, get_or}
use Rattle.bptc.specs.declared.Rgb.{Rgb}
use Rattle.bptc.specs.Colour.{sq_diff}

-- all channels 0
abbrev pub black : Rgb
black = record { r = 0; g = 0; b = 0 }

-- a function of a channel, at each channel
abbrev pub each : (ℕ → ℕ) → Rgb → Rgb
each f c = record { r = f c.r; g = f c.g; b = f c.b }

-- a function of two channels, at each channel of two colours
abbrev pub both : (ℕ → ℕ → ℕ) → Rgb → Rgb → Rgb
both f c d = record { r = f c.r d.r; g = f c.g d.g; b = f c.b d.b }

-- each channel is below a bound
pub record Below (top : ℕ) (c : Rgb) : Type 0 where
  pub r : c.r < top
  pub g : c.g < top
  pub b : c.b < top

-- the colours of bytes: red, green, blue of one pixel after the other
unfoldable pub colours_of : List ℕ → List Rgb
colours_of [] = []
colours_of (r ∷ []) = []
colours_of (r ∷ (g ∷ [])) = []
colours_of (r ∷ (g ∷ (b ∷ bs))) = record { r = r; g = g; b = b } ∷ colours_of bs

-- colour i of bytes, by their places
abbrev pub rgb_at : List ℕ → ℕ → Rgb
rgb_at px i = record { r = get_or px (i * 3) 0; g = get_or px (i * 3 + 1) 0; b = get_or px (i * 3 + 2) 0 }

-- the bytes of colours
unfoldable pub bytes_of : List Rgb → List ℕ
bytes_of [] = []
bytes_of (c ∷ cs) = c.r ∷ (c.g ∷ (c.b ∷ bytes_of cs))

-- dist_sq: the squared differences in red, green and blue
unfoldable pub dist_sq : Rgb → Rgb → ℕ
dist_sq c d = sq_diff c.r d.r + sq_diff c.g d.g + sq_diff c.b d.b

-- the product of two colours, channel by channel in sum
unfoldable pub dot : Rgb → Rgb → ℕ
dot c d = c.r * d.r + c.g * d.g + c.b * d.b

-- the squared length of a colour
unfoldable pub norm : Rgb → ℕ
norm c = dot c c
