-- The sizes of pictures that the commands take.
use Rattle.std.specs.Prelude.{ℕ, ◌<◌, ◌≤◌}

-- 1 to 16,384 a side
abbrev pub Sized : ℕ → ℕ → Type 0
Sized width height = (0 < width) × (width ≤ 16384) × (0 < height) × (height ≤ 16384)
