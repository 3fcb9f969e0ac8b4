-- Text put together in fixed memory, and numbers as text.
use Rattle.std.specs.Prelude.{ℕ, zero, suc, ◌+◌, ◌/◌, ◌%◌, List, [], ◌∷◌, ◌++◌, leb, ltb, length}
use Rattle.lists.specs.Tests.{pick}

-- a line of at most so many bytes with a text behind it: unchanged where the text does not fit
abbrev pub with_text : ℕ → List ℕ → List ℕ → List ℕ
with_text most line text = pick (leb (length line + length text) most) (line ++ text) line

-- the decimal digits of a number of at most k, with no zero in front
abbrev pub decimal_in : ℕ → ℕ → List ℕ
decimal_in zero n = []
decimal_in (suc k) n = pick (ltb n 10) ((48 + n) ∷ []) (decimal_in k (n / 10) ++ ((48 + n % 10) ∷ []))

-- the decimal digits of a number of 64 bits, which has at most twenty
unfoldable pub decimal_of : ℕ → List ℕ
decimal_of n = decimal_in 20 n

-- the point and three places of a number of thousandths
abbrev pub places_of : ℕ → List ℕ
places_of n = 46 ∷ (48 + n / 100 % 10) ∷ (48 + n / 10 % 10) ∷ (48 + n % 10) ∷ []

-- a number of thousandths as a decimal: 3750 is 3.750
unfoldable pub thousandths_of : ℕ → List ℕ
thousandths_of n = decimal_of (n / 1000) ++ places_of n

-- a number of hundredths as a decimal: 4711 is 47.11
unfoldable pub hundredths_of : ℕ → List ℕ
hundredths_of n = decimal_of (n / 100) ++ (46 ∷ (48 + n / 10 % 10) ∷ (48 + n % 10) ∷ [])
