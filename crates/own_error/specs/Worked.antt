-- The error over a picture's own pixels, worked by hand, against blocks that show black.
use Rattle.std.specs.Prelude.{ℕ, ◌≡◌, List, [], ◌∷◌, ◌++◌, replicate}
use Rattle.own_error.specs.OwnTotal.{own_rows, block_rows}

-- a block of mode 3, all else zero
abbrev pub black_block : List ℕ
black_block = 8 ∷ replicate 15 0

-- a picture of 5 by 5 pixels: green 2 in the last column of row 0, red 1 in the last column of the last row, all else black
abbrev pub corners : List ℕ
corners = replicate 13 0 ++ 2 ∷ replicate 58 0 ++ 1 ∷ replicate 2 0

-- the error over the own pixels and the sum of the blocks' errors of two pictures
pub record Worked : Type 0 where
  -- a picture of one pixel, red 1, green 2 and blue 3, which its block has sixteen times
  pub one_pixel : own_rows 1 1 1 (1 ∷ 2 ∷ 3 ∷ []) black_block ≡ 14
  pub one_block : block_rows 1 1 1 (1 ∷ 2 ∷ 3 ∷ []) black_block ≡ 224
  -- a picture of 5 by 5 pixels, whose blocks have the green pixel four times and the red one sixteen times
  pub four_blocks_own : own_rows 2 5 5 corners (black_block ++ black_block ++ black_block ++ black_block) ≡ 5
  pub four_blocks : block_rows 2 5 5 corners (black_block ++ black_block ++ black_block ++ black_block) ≡ 32
