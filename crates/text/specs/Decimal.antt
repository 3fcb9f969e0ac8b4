-- Decimal numbers read from text.
use Rattle.std.specs.Prelude.{ℕ, ◌+◌, ◌-◌, ◌*◌, List, [], ◌∷◌, ltb, eqb, length, Option, None, Some}
use Rattle.std.specs.Char.{is_ascii_digit}
use Rattle.std.specs.List.{prefix_len}
use Rattle.lists.specs.Tests.{pick}

-- how many digits stand at the front of a text
abbrev pub digits_in : List ℕ → ℕ
digits_in = prefix_len is_ascii_digit

-- the number of the digits of a text behind those of n
abbrev pub value_from : ℕ → List ℕ → ℕ
value_from n [] = n
value_from n (b ∷ bs) = value_from (n * 10 + (b - 48)) bs

-- the number of a text of digits
unfoldable pub value_of : List ℕ → ℕ
value_of text = value_from 0 text

-- the number of one to eighteen digits; any other text is none
unfoldable pub number_in : List ℕ → Option ℕ
number_in text =
    pick (eqb (length text) 0) None
    (pick (ltb 18 (length text)) None
    (pick (eqb (digits_in text) (length text)) (Some (value_of text)) None))
