-- The laws of the modes' columns: the least of a pixel's four is the least of its keys.
use Rattle.std.specs.Prelude.{ℕ, get_or}
use Rattle.bptc.specs.Mode.{mode1, mode3, largest}
use Rattle.keys.specs.Keys.{least_of4}
use Rattle.keys.proofs.FirstKey.{Least, least_of_4, least_of_8}
use Rattle.search.specs.Columns.{columns_of1, columns_of2}

-- the least of mode 3's columns is the least of its four keys
pub least_columns1 : (key : ℕ → ℕ) → Least key (largest mode3) (least_of4 (λ (c : ℕ). get_or (columns_of1 key) c 0))
unfolding largest columns_of1
least_columns1 key = least_of_4 key

-- and that of mode 1's of its eight
pub least_columns2 : (key : ℕ → ℕ) → Least key (largest mode1) (least_of4 (λ (c : ℕ). get_or (columns_of2 key) c 0))
unfolding largest columns_of2
least_columns2 key = least_of_8 key
