-- Shades worked by hand.
use Rattle.std.specs.Prelude.{◌≡◌, [], ◌∷◌}
use Rattle.shades.specs.declared.Scale.TheVariants.{SquareRoot, Linear}
use Rattle.shades.specs.Shade.{shade_of, shades_of, grey_of}

-- what the definitions of shades and grey errors give
pub record Worked : Type 0 where
  -- a quarter of the white error has half the shade of white by its root, rounded up
  pub quarter_root : shade_of SquareRoot 25 100 ≡ 128
  -- a quarter of the white error has a quarter of the shade of white by itself, rounded up
  pub quarter : shade_of Linear 25 100 ≡ 64
  -- the error 1 has the shade 1 below a white error of 255^2, on both scales
  pub one_root : shade_of SquareRoot 1 65025 ≡ 1
  pub one : shade_of Linear 1 65025 ≡ 1
  -- a row of the errors 0 and 1 where 1 is white: three black bytes and three white ones
  pub row : shades_of Linear (0 ∷ 1 ∷ []) 1 ≡ 0 ∷ 0 ∷ 0 ∷ 255 ∷ 255 ∷ 255 ∷ []
  -- the grey error is (128 / 255)^2 of the white one by its root, and 128 / 255 of it by itself
  pub grey_root : grey_of SquareRoot 65025 ≡ 16384
  pub grey : grey_of Linear 255 ≡ 128
