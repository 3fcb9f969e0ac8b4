-- Colours of four channels, the pixels that bytes stand for, and the distance between two colours.
use Rattle.std.specs.Prelude.{ℕ, ◌+◌, ◌-◌, ◌*◌, List, [], ◌∷◌, map, ltb, get_or, take}
use Rattle.lists.specs.Tests.{pick}
use Rattle.lists.specs.Rows.{up_from}
use Rattle.lists.specs.Parts.{joined}
use Rattle.bptc.specs.declared.Rgb.{Rgb}
use Rattle.bptc.specs.Mode.{Mode}

-- a colour of red, green, blue and alpha, stored or shown
pub record Rgba : Type 0 where
  pub r : ℕ
  pub g : ℕ
  pub b : ℕ
  pub a : ℕ

-- the colour of a function's values: red at 0, green at 1, blue at 2, alpha at 3
abbrev pub colour_by : (ℕ → ℕ) → Rgba
colour_by f = record { r = f 0; g = f 1; b = f 2; a = f 3 }

-- the channels of a colour: red, green, blue, alpha
abbrev pub channels : Rgba → List ℕ
channels c = c.r ∷ (c.g ∷ (c.b ∷ (c.a ∷ [])))

-- channel j of a colour: red 0, green 1, blue 2, alpha 3
unfoldable pub channel : ℕ → Rgba → ℕ
channel j c = get_or (channels c) j 0

-- all channels 0
abbrev pub clear : Rgba
clear = record { r = 0; g = 0; b = 0; a = 0 }

-- a colour of three channels, with an alpha
abbrev pub with_alpha : ℕ → Rgb → Rgba
with_alpha a c = record { r = c.r; g = c.g; b = c.b; a = a }

-- the red, green and blue of a colour
abbrev pub rgb_of : Rgba → Rgb
rgb_of c = record { r = c.r; g = c.g; b = c.b }

-- stored endpoints of three channels: their alpha is not stored, and is 0
unfoldable pub without_alpha : List Rgb → List Rgba
without_alpha ends = map (with_alpha 0) ends

-- what a mode looks at of a stored colour: the channels that it has, and 0 for the others
unfoldable pub stored : Mode → Rgba → Rgba
stored m c = colour_by (λ (j : ℕ). pick (ltb j m.channels) (channel j c) 0)

-- pixel i of bytes, k to a pixel: where there are three the alpha is 255
abbrev pub pixel_in : ℕ → List ℕ → ℕ → Rgba
pixel_in k px i = colour_by (λ (j : ℕ). pick (ltb j k) (get_or px (i * k + j) 0) 255)

-- the sixteen pixels of bytes, k to a pixel
unfoldable pub pixels_of : ℕ → List ℕ → List Rgba
pixels_of k px = map (pixel_in k px) (up_from 0 16)

-- the bytes of sixteen colours, k to a pixel
unfoldable pub pixel_bytes : ℕ → List Rgba → List ℕ
pixel_bytes k cs = joined (λ (i : ℕ). take k (channels (get_or cs i clear))) 16

-- the square of a difference: one of the two terms is 0
unfoldable pub sq_diff : ℕ → ℕ → ℕ
sq_diff a b = (a - b) * (a - b) + (b - a) * (b - a)

-- the squared differences in red, green and blue
unfoldable pub squared_distance : Rgba → Rgba → ℕ
squared_distance c d = sq_diff c.r d.r + sq_diff c.g d.g + sq_diff c.b d.b
