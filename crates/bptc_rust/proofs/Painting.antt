-- The palettes of closest_rgb are the chapter's, colour by colour.
use Prim.Native.Nat.{ℕ, ◌+◌, ◌-◌, ◌*◌, ◌≤◌}
use native.Mathlib.Omega.{arith}
use mathlib.Core.Path.{◌≡◌, refl, ap₂}
use mathlib.Core.List.{List, ◌∷◌}
use Rattle.bptc.specs.declared.Rgb.{Rgb}
use Rattle.bptc.specs.Mode.{Mode, mode1, mode3, IsMode, largest}
use Rattle.bptc.specs.Internal.Colour.{both}
use Rattle.bptc.specs.Palette.{between}
use Rattle.bptc.specs.Internal.Palette.{blend, shade_rgb, row}
use Rattle.bptc.proofs.Modes.{by_mode}
use Rattle.bptc.proofs.Shading.{blend-colours}
use Rattle.bptc.proofs.ColourBounds.{rgb_eq}
use Rattle.bptc_rust.specs.Words.{shr}
use Rattle.bptc_rust.specs.Palette.{interpolate_rgb, palette_rgb}

-- of a mode
abbrev pub Paints : Mode → Type 0
Paints m = (a b : Rgb) → palette_rgb m.index_bits a b ≡ row m a b

-- the colour between two, by the Rust's weight
abbrev mixed : ℕ → Rgb → Rgb → Rgb
mixed w a b = both (λ (x y : ℕ). shr ((256 - w) * x + w * y + 128) 8) a b

inner : (w : ℕ) (a b : Rgb) → w ≤ 64 → mixed (4 * w) a b ≡ both (between w) a b
unfolding blend
inner = blend-colours

first : (a b : Rgb) → a ≡ both (between 0) a b
unfolding between
first a b = rgb_eq (omega arith) (omega arith) (omega arith)

last : (a b : Rgb) → b ≡ both (between 64) a b
unfolding between
last a b = rgb_eq (omega arith) (omega arith) (omega arith)

then : {x y : Rgb} {xs ys : List Rgb} → x ≡ y → xs ≡ ys → x ∷ xs ≡ y ∷ ys
then p q = ap₂ ◌∷◌ p q

-- mode 1
pub paints1 : Paints mode1
unfolding palette_rgb interpolate_rgb row shade_rgb largest
paints1 a b =
    then (first a b)
    (then (inner 9 a b (omega arith))
    (then (inner 18 a b (omega arith))
    (then (inner 27 a b (omega arith))
    (then (inner 37 a b (omega arith)) (then (inner 46 a b (omega arith)) (then (inner 55 a b (omega arith)) (then (last a b) refl)))))))

-- mode 3
pub paints3 : Paints mode3
unfolding palette_rgb interpolate_rgb row shade_rgb largest
paints3 a b = then (first a b) (then (inner 21 a b (omega arith)) (then (inner 43 a b (omega arith)) (then (last a b) refl)))

-- either mode
pub paints_of : (m : Mode) → IsMode m → Paints m
paints_of = by_mode Paints paints1 paints3
