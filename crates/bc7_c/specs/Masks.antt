-- The checks of the numbers of C, many fields at once: a mask has the bits that must be 0.
use Rattle.std.specs.Prelude.{ℕ, ◌-◌, ◌^◌, List, [], ◌∷◌, map, eqb, leb}
use Rattle.std.specs.Int.Bits.{bit_and, bit_or}
use Rattle.lists.specs.Bits.{join}
use Rattle.bptc_block.specs.Refusal.{unless}

-- all bits but the k lowest of each field
unfoldable pub above : List ℕ → ℕ → ℕ
above ws k = join ws (map (λ (w : ℕ). 2 ^ w - 2 ^ k) ws)

-- the fields of an endpoint: red, green, and blue with all that is above
abbrev pub end_widths : List ℕ
end_widths = 8 ∷ (8 ∷ (16 ∷ []))

-- the bits of a mask that some number has
abbrev pub over : ℕ → List ℕ → ℕ
over mask [] = 0
over mask (n ∷ []) = bit_and n mask
over mask (n ∷ (k ∷ ns)) = bit_or (bit_and n mask) (over mask (k ∷ ns))

-- 4 to 7, by the masks of the channels and of the indices and the greatest p-bits
abbrev pub check_masked : ℕ → ℕ → ℕ → ℕ → List ℕ → ℕ → ℕ → ℕ
check_masked channels top index partition ends p indices =
    unless (leb partition 63) 4
    (unless (eqb (over channels ends) 0) 5 (unless (leb p top) 6 (unless (eqb (bit_and indices index) 0) 7 0)))
