-- bc7.rs: WEIGHTS, interpolate_rgb, the palettes of closest_rgb, and the closest colour of one.
use Rattle.std.specs.Prelude.{ℕ, ◌+◌, ◌-◌, ◌*◌, List, [], ◌∷◌, eqb, ltb, get_or}
use Rattle.lists.specs.Tests.{pick}
use Rattle.bptc.specs.declared.Rgb.{Rgb}
use Rattle.bptc_rust.specs.Words.{shr, loop, enumerate}
use Rattle.bptc_rust.specs.Colour.{rust_dist_sq}

-- the weights at indexes of two bits, in parts of 256
abbrev pub WEIGHTS-2 : List ℕ
WEIGHTS-2 = 0 ∷ 84 ∷ 172 ∷ 256 ∷ []

-- at indexes of three bits
abbrev pub WEIGHTS-3 : List ℕ
WEIGHTS-3 = 0 ∷ 36 ∷ 72 ∷ 108 ∷ 148 ∷ 184 ∷ 220 ∷ 256 ∷ []

-- the colour at an index between two that are shown
unfoldable pub interpolate_rgb : ℕ → Rgb → Rgb → ℕ → Rgb
interpolate_rgb W e0 e1 index =
    let weight : ℕ = get_or (pick (eqb W 2) WEIGHTS-2 WEIGHTS-3) index 0 in
    let w0 : ℕ = 256 - weight in
    let w1 : ℕ = weight in
    record {
      r = shr (w0 * e0.r + w1 * e1.r + 128) 8;
      g = shr (w0 * e0.g + w1 * e1.g + 128) 8;
      b = shr (w0 * e0.b + w1 * e1.b + 128) 8;
    }

-- the palette at indexes of two bits
abbrev pub palette_2 : Rgb → Rgb → List Rgb
palette_2 e0 e1 = e0 ∷ interpolate_rgb 2 e0 e1 1 ∷ interpolate_rgb 2 e0 e1 2 ∷ e1 ∷ []

-- at indexes of three bits
abbrev pub palette_3 : Rgb → Rgb → List Rgb
palette_3 e0 e1 =
    e0 ∷ interpolate_rgb 3 e0 e1 1 ∷ interpolate_rgb 3 e0 e1 2 ∷ interpolate_rgb 3 e0 e1 3
    ∷ interpolate_rgb 3 e0 e1 4 ∷ interpolate_rgb 3 e0 e1 5 ∷ interpolate_rgb 3 e0 e1 6 ∷ e1 ∷ []

-- the palette that closest_rgb makes, by the bits of an index
unfoldable pub palette_rgb : ℕ → Rgb → Rgb → List Rgb
palette_rgb I e0 e1 = pick (eqb I 2) (palette_2 e0 e1) (palette_3 e0 e1)

-- closest's inner loop: best_index and best_dist, from 0 and u32::MAX
unfoldable pub best_of : List Rgb → Rgb → ℕ × ℕ
best_of palette p =
    loop (enumerate 0 palette) (0, 4294967295)
    (λ (best : ℕ × ℕ) ((j, c) : ℕ × Rgb).
    let dist : ℕ = rust_dist_sq p c in
    pick (ltb dist best.1) (j, dist) best)
