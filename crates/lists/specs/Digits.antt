-- Binary digits of a number.
use Rattle.std.specs.Prelude.{ℕ, zero, suc, ◌/◌, ◌%◌, ◌^◌, eqb}
use Rattle.lists.specs.Tests.{pick}

-- digit i
abbrev pub bit : ℕ → ℕ → ℕ
bit n i = n / 2 ^ i % 2

-- how many of the k lowest digits are 0 before the first 1: k where none is 1
unfoldable pub zeros_below : ℕ → ℕ → ℕ
zeros_below zero n = 0
zeros_below (suc k) n = pick (eqb (n % 2) 1) 0 (suc (zeros_below k (n / 2)))
