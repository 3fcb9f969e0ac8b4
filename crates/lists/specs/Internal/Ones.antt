-- The ones among a number's digits.
use Rattle.std.specs.Prelude.{ℕ, zero, suc, ◌+◌, ◌/◌, ◌%◌}

-- how many of the k lowest digits are 1
unfoldable pub ones_below : ℕ → ℕ → ℕ
ones_below zero n = 0
ones_below (suc k) n = n % 2 + ones_below k (n / 2)
