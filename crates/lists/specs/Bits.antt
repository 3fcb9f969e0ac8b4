-- A number as fields of given widths, the lowest bits first.
use Rattle.std.specs.Prelude.{ℕ, ◌+◌, ◌*◌, ◌/◌, ◌%◌, ◌^◌, List, [], ◌∷◌}

-- the fields of a number, one for each width
unfoldable pub split : List ℕ → ℕ → List ℕ
split [] n = []
split (w ∷ ws) n = n % 2 ^ w ∷ split ws (n / 2 ^ w)

-- the number whose fields these are
unfoldable pub join : List ℕ → List ℕ → ℕ
join [] vs = 0
join (w ∷ ws) [] = 0
join (w ∷ ws) (v ∷ vs) = join ws vs * 2 ^ w + v
