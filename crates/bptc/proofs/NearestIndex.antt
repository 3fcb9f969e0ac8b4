-- Laws of the nearest index: it is an index of the palette, and no index has a nearer colour.
use Prim.Native.Nat.{ℕ, suc, ◌≤◌}
use native.Mathlib.Nat.{zero-add}
use native.Mathlib.Omega.{arith}
use mathlib.Core.Path.{sym}
use mathlib.Core.List.Memᴰ
use mathlib.Core.List.{List}
use Rattle.lists.specs.Rows.{up_from}
use Rattle.lists.proofs.Least.{least-all, least-keeps}
use Rattle.lists.proofs.Rows.{up_from_has, up_from-below}
use Rattle.bptc.specs.declared.Rgb.{Rgb}
use Rattle.bptc.specs.Mode.{Mode, largest}
use Rattle.bptc.specs.Internal.Colour.{dist_sq}
use Rattle.bptc.specs.Internal.Palette.{palette_colour}
use Rattle.bptc.specs.Palette.{nearest_by}
use Rattle.bptc.specs.Internal.Nearest.{nearest_rgb}

-- by any distance
module _ {A : Type 0} (distance : A → A → ℕ) (colour : ℕ → A) (last : ℕ) (c : A) where
  -- no index has a nearer colour
  pub least_by : (i : ℕ) → i ≤ last → distance c (colour (nearest_by distance colour last c)) ≤ distance c (colour i)
  unfolding nearest_by
  least_by i h =
      least-all (λ (i : ℕ). distance c (colour i)) (up_from 1 last) 0 (Memᴰ.cast (sym (zero-add i)) (up_from_has (suc last) 0 i (omega arith)))

  -- it is one of them
  pub small_by : nearest_by distance colour last c ≤ last
  unfolding nearest_by
  small_by =
      least-keeps (λ (i : ℕ). distance c (colour i)) (λ (i : ℕ). i ≤ last) (up_from 1 last) 0 (λ i h. omega (arith, up_from-below (suc last) 0 i h))

-- in the palette of a subset
module _ (m : Mode) (ends : List Rgb) (p s : ℕ) (c : Rgb) where
  -- no index of the mode has a nearer colour
  pub nearest-least : (i : ℕ) → i ≤ largest m → dist_sq c (palette_colour m ends p s (nearest_rgb m ends p s c)) ≤ dist_sq c (palette_colour m ends p s i)
  unfolding nearest_rgb
  nearest-least = least_by dist_sq (palette_colour m ends p s) (largest m) c

  -- it is an index of the mode
  pub nearest_small : nearest_rgb m ends p s c ≤ largest m
  unfolding nearest_rgb
  nearest_small = small_by dist_sq (palette_colour m ends p s) (largest m) c
