-- Khronos Data Format Specification, BPTC: the colours of a subset's palette; and the index that a pixel gets in it.
use Rattle.std.specs.Prelude.{ℕ, ◌+◌, ◌-◌, ◌*◌, ◌/◌, List, get_or}
use Rattle.lists.specs.Rows.{up_from}
use Rattle.lists.specs.Least.{first_least}
use Rattle.bptc.specs.Mode.{Mode, weight, largest}
use Rattle.bptc.specs.Colour.{Rgba, clear}
use Rattle.bptc.specs.Shown.{own, end_shown}

-- a channel between two, at a weight in parts of 64
unfoldable pub between : ℕ → ℕ → ℕ → ℕ
between w a b = ((64 - w) * a + w * b + 32) / 64

-- the colour at index i between two that are shown
unfoldable pub shade : Mode → Rgba → Rgba → ℕ → Rgba
shade m a b i =
    let w : ℕ = weight m i in
    record { r = between w a.r b.r; g = between w a.g b.g; b = between w a.b b.b; a = between w a.a b.a }

-- the colour at index i of a palette, by two stored endpoints and their own p-bits
unfoldable pub palette_of : Mode → Rgba → Rgba → ℕ → ℕ → Rgba
palette_of m a b q i = shade m (end_shown m q 0 a) (end_shown m q 1 b) i

-- the lower endpoint of subset s where h is 0, and the upper one where it is 1
abbrev pub end_of : List Rgba → ℕ → ℕ → Rgba
end_of ends s h = get_or ends (2 * s + h) clear

-- the colour at index i of subset s, at given endpoints and p-bits
abbrev pub palette_at : Mode → List Rgba → ℕ → ℕ → ℕ → Rgba
palette_at m ends p s i = palette_of m (end_of ends s 0) (end_of ends s 1) (own m p s) i

-- the lowest index up to the last whose colour is nearest, by any distance
unfoldable pub nearest_by : {A : Type 0} → (A → A → ℕ) → (ℕ → A) → ℕ → A → ℕ
nearest_by distance colour last c = first_least (λ (i : ℕ). distance c (colour i)) 0 (up_from 1 last)

-- the nearest index in the palette of two endpoints and their own p-bits
abbrev pub nearest : (Rgba → Rgba → ℕ) → Mode → Rgba → Rgba → ℕ → Rgba → ℕ
nearest distance m a b q c = nearest_by distance (palette_of m a b q) (largest m) c
