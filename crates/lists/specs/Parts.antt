-- Parts of a list, one after the other.
use Rattle.std.specs.Prelude.{ℕ, zero, suc, ◌*◌, List, [], ◌++◌, take, drop}

-- part k of a list whose parts have w elements each
abbrev pub part_at : {A : Type 0} → ℕ → ℕ → List A → List A
part_at w k xs = take w (drop (k * w) xs)

-- the first n parts that a function gives
unfoldable pub joined : {A : Type 0} → (ℕ → List A) → ℕ → List A
joined f zero = []
joined f (suc n) = joined f n ++ f n
