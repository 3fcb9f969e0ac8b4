-- What bounds the figures of the rows so far.
use Rattle.std.specs.Prelude.{ℕ, ◌*◌, ◌≤◌}
use Rattle.figures.specs.declared.Figures.{Figures}

-- figures of so many rows: at most 4,096 blocks in each, and 2 ^ 32 for each block's error
abbrev pub Bounded : Figures → ℕ → Type 0
Bounded f rows = (f.block_errors ≤ rows * 17592186044416) × (f.blocks ≤ rows * 4096) × (f.place ≤ rows * 4096)
