-- The shades of an error map, by two scales.
use Rattle.std.specs.Prelude.{ℕ, zero, suc, ◌+◌, ◌*◌, ◌/◌, ◌≤◌, ◌<◌, ◌≡◌, Bool, List, map, leb, eqb, length, get_or}
use Rattle.lists.specs.Rows.{up_from}
use Rattle.lists.specs.Tests.{pick}
use Rattle.shades.specs.declared.Scale.{Scale}
use Rattle.shades.specs.declared.Scale.TheVariants.{SquareRoot, Linear}

-- what a shade stands for on a scale: its square, or itself
abbrev pub step : Scale → ℕ → ℕ
step SquareRoot s = s * s
step Linear s = s

-- whether a shade reaches an error, where the shade 255 reaches the white error
abbrev pub reaches : Scale → ℕ → ℕ → ℕ → Bool
reaches scale error white s = leb (step scale 255 * error) (step scale s * white)

-- the first number from n on for which a test holds, and n + k where it holds for none before
unfoldable pub first_where : (ℕ → Bool) → ℕ → ℕ → ℕ
first_where test n zero = n
first_where test n (suc k) = pick (test n) n (first_where test (suc n) k)

-- the shade of an error: the least that reaches it, at most 255; 0 where the white error is 0
unfoldable pub shade_of : Scale → ℕ → ℕ → ℕ
shade_of scale error white = pick (eqb white 0) 0 (first_where (reaches scale error white) 0 255)

-- a row of an error map: three bytes for each error, which are its shade
unfoldable pub shades_of : Scale → List ℕ → ℕ → List ℕ
shades_of scale errors white = map (λ (j : ℕ). shade_of scale (get_or errors (j / 3) 0) white) (up_from 0 (3 * length errors))

-- what a row of an error map says of its errors: it has three bytes for each, which are its shade
pub record MapRow (scale : Scale) (errors : List ℕ) (white : ℕ) (bytes : List ℕ) : Type 0 where
  pub long : length bytes ≡ 3 * length errors
  pub equal : (k c : ℕ) → k < length errors → c < 3 → get_or bytes (3 * k + c) 0 ≡ shade_of scale (get_or errors k 0) white

-- a row that is written of any errors has three bytes for each, which are its shade
abbrev pub RowsShaded : Type 0
RowsShaded = (scale : Scale) (errors : List ℕ) (white : ℕ) → MapRow scale errors white (shades_of scale errors white)

-- the grey error: the greatest whose shade is at most 128, where some error is white
unfoldable pub grey_of : Scale → ℕ → ℕ
grey_of scale white = step scale 128 * white / step scale 255

-- a shade by the root of the error, in plain numbers: the least s for which 255^2 * error is at most s^2 * white, and
-- 255 where there is none below
pub record ByRoot (error white s : ℕ) : Type 0 where
  pub reached : s < 255 → 65025 * error ≤ s * s * white
  pub least : (t : ℕ) → t < s → t * t * white < 65025 * error
  pub most : s ≤ 255

-- a shade by the error itself, in plain numbers: the least s for which 255 * error is at most s * white, and 255
-- where there is none below
pub record ByError (error white s : ℕ) : Type 0 where
  pub reached : s < 255 → 255 * error ≤ s * white
  pub least : (t : ℕ) → t < s → t * white < 255 * error
  pub most : s ≤ 255

-- on the scale of roots a shade is the least s for which s / 255 is at least the root of error / white, at most 255
abbrev pub RootShades : Type 0
RootShades = (error white : ℕ) → 0 < white → ByRoot error white (shade_of SquareRoot error white)

-- on the linear scale a shade is the least s for which s / 255 is at least error / white, at most 255
abbrev pub LinearShades : Type 0
LinearShades = (error white : ℕ) → 0 < white → ByError error white (shade_of Linear error white)

-- what the shades of a scale say of errors, where errors from a number on are white
pub record MapShades (scale : Scale) (white : ℕ) : Type 0 where
  -- an error of 0 is black, and no other is
  pub black : shade_of scale 0 white ≡ 0
  pub seen : (error : ℕ) → 0 < error → 0 < shade_of scale error white
  -- the white error is white, and each above it is
  pub full : (error : ℕ) → white ≤ error → shade_of scale error white ≡ 255
  -- a greater error is never darker
  pub rising : (a b : ℕ) → a ≤ b → shade_of scale a white ≤ shade_of scale b white
  -- the shade of an error is at most 128 exactly where the error is at most the grey one
  pub up_to_grey : (error : ℕ) → error ≤ grey_of scale white → shade_of scale error white ≤ 128
  pub above_grey : (error : ℕ) → grey_of scale white < error → 128 < shade_of scale error white

-- on each scale, and for each white error but 0, the shades rise from black to white, and pass 128 at the grey error
abbrev pub ShadesRise : Type 0
ShadesRise = (scale : Scale) (white : ℕ) → 0 < white → MapShades scale white

-- where the white error is 0, all shades are black
abbrev pub NoneWhite : Type 0
NoneWhite = (scale : Scale) (error : ℕ) → shade_of scale error 0 ≡ 0
