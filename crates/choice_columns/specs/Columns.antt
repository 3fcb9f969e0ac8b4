-- The four columns of a pixel where each is a choice of four colours.
use Rattle.std.specs.Prelude.{ℕ, ◌+◌, ◌*◌, List, [], map, slice_index, slice_index_or}
use Rattle.lists.specs.Rows.{up_from}
use Rattle.keys.specs.Keys.{least_of4}

-- the columns of a pixel, by its keys: the least of four in each
unfoldable pub columns_of4 : (ℕ → ℕ) → List ℕ
columns_of4 key = map (λ (c : ℕ). least_of4 (λ (row : ℕ). key (c + row * 4))) (up_from 0 4)

-- the number in column c of pixel i
abbrev pub column_at : List (List ℕ) → ℕ → ℕ → ℕ
column_at columns c i = slice_index (slice_index_or columns i []) c
