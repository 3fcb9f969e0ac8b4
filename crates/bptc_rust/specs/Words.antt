-- Rust's operators on numbers of w bits, as Rattle's own semantics has them (mir.Val), its loops, and its arrays.
-- `|`, `&` and `^` are `bit_or`, `bit_and` and `bit_xor` of lib.Bits, digit by digit, and a shift to the left drops what passes w bits.
-- So no place rests on digits that are disjoint, or on none being lost.
-- Sums, products and narrowing casts stand without a wrap: proofs/Stays bounds those of colours and errors, and all others count to 128 at most.
use Rattle.std.specs.Prelude.{ℕ, suc, ◌-◌, ◌*◌, ◌/◌, ◌%◌, ◌^◌, Bool, not, List, [], ◌∷◌, eqb, get_or, set}

-- a << k
abbrev pub shl : ℕ → ℕ → ℕ → ℕ
shl w a k = a * 2 ^ k % 2 ^ w

-- a >> k
abbrev pub shr : ℕ → ℕ → ℕ
shr a k = a / 2 ^ k

-- !a
abbrev pub complement : ℕ → ℕ → ℕ
complement w a = 2 ^ w - 1 - a

-- a != b
abbrev pub differs : ℕ → ℕ → Bool
differs a b = not (eqb a b)

-- for x in xs { .. }, over what the body changes
abbrev pub loop : {S A : Type 0} → List A → S → (S → A → S) → S
loop [] s body = s
loop (x ∷ xs) s body = loop xs (body s x) body

-- xs.iter().enumerate(), from i on
abbrev pub enumerate : {A : Type 0} → ℕ → List A → List (ℕ × A)
enumerate i [] = []
enumerate i (x ∷ xs) = (i, x) ∷ enumerate (suc i) xs

-- xs.swap(i, j); d stands for what lies outside, and is never read
abbrev pub swap : {A : Type 0} → A → List A → ℕ → ℕ → List A
swap d xs i j = set (set xs i (get_or xs j d)) j (get_or xs i d)
