-- The shade of an error is the least number that reaches it, at most 255.
use Prim.Native.Nat.{ℕ, ◌*◌, ◌<◌, ◌≤◌, min}
use native.Mathlib.Omega.{arith}
use mathlib.Core.Path.{◌≡◌}
use mathlib.Core.Logic.{⊎_elim}
use borrow.Author.Tests.{ne_eqb, leb-true, leb-false}
use Rattle.std.proofs.lemmas.Bool.{cases_lt, cases_order}
use Rattle.shades.specs.declared.Scale.{Scale}
use Rattle.shades.specs.Shade.{step, reaches, first_where, shade_of}
use Rattle.shades.proofs.First.{first_most, first_holds, first_fails}

module _ (scale : Scale) (error white : ℕ) (some : 0 < white) where
  -- the shade is the first number that reaches the error
  pub shade_first : shade_of scale error white ≡ first_where (reaches scale error white) 0 255
  unfolding shade_of
  shade_first = rw (ne_eqb white 0 (λ z. omega arith))

  -- a shade that is not white reaches the error
  pub shade_reaches : shade_of scale error white < 255 → step scale 255 * error ≤ step scale (shade_of scale error white) * white
  shade_reaches h =
      rw shade_first
      (leb-true _ _ (first_holds (reaches scale error white) 255 0 (rw shade_first at h)))

  -- no number below the shade reaches the error
  pub shade-least : (t : ℕ) → t < shade_of scale error white → step scale t * white < step scale 255 * error
  shade-least t h = leb-false _ _ (first_fails (reaches scale error white) 255 0 t (omega arith) (rw shade_first at h))

  -- a shade is a byte
  pub shade_most : shade_of scale error white ≤ 255
  shade_most = rw shade_first (first_most (reaches scale error white) 255 0)

  -- the least number that reaches the error, and at most 255, is the shade
  pub shade_capped : (s : ℕ) → (s < 255 → step scale 255 * error ≤ step scale s * white) →
      ((t : ℕ) → t < s → step scale t * white < step scale 255 * error) → min s 255 ≡ shade_of scale error white
  shade_capped s reached least =
      let below : s < shade_of scale error white → s < 255 = λ g. omega (arith, shade_most) in
      let low : shade_of scale error white ≤ s =
      ⊎_elim (λ e. omega arith) (⊎_elim (λ l. omega arith) (λ g. absurd (omega (arith, shade-least s g, reached (below g)))))
      (cases_order (shade_of scale error white) s) in
      ⊎_elim
      (λ h.
      ⊎_elim (λ e. omega arith)
      (⊎_elim (λ l. absurd (omega (arith, least (shade_of scale error white) l, shade_reaches h))) (λ g. omega arith))
      (cases_order (shade_of scale error white) s))
      (λ h. omega (arith, shade_most))
      (cases_lt (shade_of scale error white) 255)
