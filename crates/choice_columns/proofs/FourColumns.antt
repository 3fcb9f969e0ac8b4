-- Laws of the four columns of a pixel, each a choice of four colours.
use Rattle.std.proofs.Common.{◌≡◌, ℕ, ◌+◌, ◌*◌, ◌<◌, List, map, lt_of_le_of_lt, arith}
use Rattle.lists.specs.Rows.{up_from}
use Rattle.keys.specs.Keys.{least_of4}
use Rattle.keys.proofs.FirstKey.{least4_le}
use Rattle.search.proofs.Columns.{column_at_lem, columns_small}
use Rattle.choice_columns.specs.Columns.{columns_of4, column_at}

module _ (key : ℕ → ℕ → ℕ) (columns : List (List ℕ)) (made : columns ≡ map (λ (i : ℕ). columns_of4 (key i)) (up_from 0 16)) where
  -- the number in a column
  pub column4 : (i c : ℕ) → i < 16 → c < 4 → column_at columns c i ≡ least_of4 (λ (row : ℕ). key i (c + row * 4))
  unfolding columns_of4
  column4 i c h four = column_at_lem (λ (i c : ℕ). least_of4 (λ (row : ℕ). key i (c + row * 4))) columns made i c h four

  -- it is as small as the keys
  pub columns_small4 : (top : ℕ) → 0 < top → ((i j : ℕ) → j < 16 → key i j < top) → (c i : ℕ) → column_at columns c i < top
  unfolding columns_of4
  columns_small4 top some small c i =
      columns_small (λ (i c : ℕ). least_of4 (λ (row : ℕ). key i (c + row * 4))) columns made top some
      (λ i c h. lt_of_le_of_lt (least4_le (λ (row : ℕ). key i (c + row * 4)) 0 (omega arith)) (small i (c + 0 * 4) (omega arith))) i c
