-- The four columns in which a pixel's keys stand.
use Rattle.std.specs.Prelude.{ℕ, ◌+◌, List, min, map}
use Rattle.lists.specs.Rows.{up_from}

-- of a pixel with four colours: the keys themselves
unfoldable pub columns_of1 : (ℕ → ℕ) → List ℕ
columns_of1 key = map key (up_from 0 4)

-- with eight: the lesser of two keys in each
unfoldable pub columns_of2 : (ℕ → ℕ) → List ℕ
columns_of2 key = map (λ (c : ℕ). min (key c) (key (c + 4))) (up_from 0 4)
