-- Laws of the shades of an error map by each scale.
use Prim.Native.Nat.{ℕ, ◌*◌, ◌<◌, ◌≤◌}
use native.Mathlib.Nat.{mul-le-mul, mul-le-mul_left, mul-le-mul_right, mul-lt-mul_of_pos_right, one-le-mul, div-lt_iff_lt-mul, le-div_iff_mul-le}
use native.Mathlib.Omega.{arith}
use mathlib.Core.Path.{◌≡◌, refl}
use Rattle.std.proofs.lemmas.Bool.{cases_lt}
use mathlib.Core.Logic.{⊎_elim}
use Rattle.std.proofs.lemmas.Nat.{mul-lt}
use Rattle.shades.specs.declared.Scale.{Scale}
use Rattle.shades.specs.declared.Scale.TheVariants.{SquareRoot, Linear}
use Rattle.shades.specs.Shade.{step, shade_of, grey_of, RootShades, LinearShades, ShadesRise, NoneWhite}
use Rattle.shades.proofs.Reached.{shade_reaches, shade-least, shade_most}

-- of two shades the greater stands for no less
step_rises : (scale : Scale) (s t : ℕ) → s ≤ t → step scale s ≤ step scale t
step_rises SquareRoot s t h = mul-le-mul h h
step_rises Linear s t h = h

-- a shade below 255 stands for less than 255 does
step_below : (scale : Scale) (s : ℕ) → s < 255 → step scale s < step scale 255
step_below SquareRoot s h = mul-lt s s 255 255 h h
step_below Linear s h = h

-- the shade 255 stands for more than 0
step_some : (scale : Scale) → 0 < step scale 255
step_some SquareRoot = omega arith
step_some Linear = omega arith

-- the shade 0 stands for 0
step-zero : (scale : Scale) → step scale 0 ≡ 0
step-zero SquareRoot = refl
step-zero Linear = refl

module _ (scale : Scale) (white : ℕ) (some : 0 < white) where
  -- an error of 0 is black
  none-black : shade_of scale 0 white ≡ 0
  none-black =
      ⊎_elim (λ h. absurd (omega (arith, shade-least scale 0 white some 0 h))) (λ h. omega arith)
      (cases_lt 0 (shade_of scale 0 white))

  -- an error above 0 is not black
  other_seen : (error : ℕ) → 0 < error → 0 < shade_of scale error white
  other_seen error h =
      ⊎_elim (λ l. l)
      (λ l.
      let e : shade_of scale error white ≡ 0 = omega arith in
      let r = shade_reaches scale error white some (omega arith) in
      let z = rw (e, step-zero scale) at r in
      absurd (omega (arith, z, one-le-mul (step_some scale) h)))
      (cases_lt 0 (shade_of scale error white))

  -- an error from the white one on is white
  white_from : (error : ℕ) → white ≤ error → shade_of scale error white ≡ 255
  white_from error h =
      ⊎_elim
      (λ l.
      let r = shade_reaches scale error white some l in
      let s = step_below scale _ l in
      absurd (omega (arith, r, mul-le-mul_left (step scale 255) h, mul-lt-mul_of_pos_right s some)))
      (λ l. omega (arith, shade_most scale error white some))
      (cases_lt (shade_of scale error white) 255)

  -- of two errors the greater has no smaller shade
  rise : (a b : ℕ) → a ≤ b → shade_of scale a white ≤ shade_of scale b white
  rise a b h =
      ⊎_elim
      (λ l.
      let r = shade_reaches scale b white some (omega (arith, shade_most scale a white some)) in
      let n = shade-least scale a white some _ l in
      absurd (omega (arith, r, n, mul-le-mul_left (step scale 255) h)))
      (λ l. l)
      (cases_lt (shade_of scale b white) (shade_of scale a white))

  -- an error up to the grey one has a shade of at most 128
  up_to : (error : ℕ) → error ≤ grey_of scale white → shade_of scale error white ≤ 128
  unfolding grey_of
  up_to error h =
      ⊎_elim
      (λ l.
      let n = shade-least scale error white some 128 l in
      let g : error * step scale 255 ≤ step scale 128 * white = (le-div_iff_mul-le (step_some scale)).0 h in
      absurd (omega arith))
      (λ l. l)
      (cases_lt 128 (shade_of scale error white))

  -- an error above the grey one has a shade above 128
  above : (error : ℕ) → grey_of scale white < error → 128 < shade_of scale error white
  unfolding grey_of
  above error h =
      ⊎_elim (λ l. l)
      (λ l.
      let r = shade_reaches scale error white some (omega arith) in
      let g : step scale 128 * white < error * step scale 255 = (div-lt_iff_lt-mul (step_some scale)).0 h in
      absurd (omega (arith, r, g, mul-le-mul_right white (step_rises scale _ 128 l))))
      (cases_lt 128 (shade_of scale error white))

-- the shades of the scale of roots are the least that reach the errors
pub root_shades : RootShades
root_shades error white some = record {
  reached = shade_reaches SquareRoot error white some;
  least = shade-least SquareRoot error white some;
  most = shade_most SquareRoot error white some;
}

-- the shades of the linear scale are the least that reach the errors
pub linear_shades : LinearShades
linear_shades error white some = record {
  reached = shade_reaches Linear error white some;
  least = shade-least Linear error white some;
  most = shade_most Linear error white some;
}

-- the shades of both scales rise from black to white
pub shades_rise : ShadesRise
shades_rise scale white some = record {
  black = none-black scale white some;
  seen = other_seen scale white some;
  full = white_from scale white some;
  rising = rise scale white some;
  up_to_grey = up_to scale white some;
  above_grey = above scale white some;
}

-- where the white error is 0 all shades are black
pub none_white : NoneWhite
unfolding shade_of
none_white scale error = refl
