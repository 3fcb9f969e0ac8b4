-- The checks 4 to 6 of three channels, by the greatest numbers that the code compares with.
use Rattle.std.specs.Prelude.{ℕ, Bool, true, List, leb}
use Rattle.lists.specs.Tests.{and, all}
use Rattle.bptc.specs.declared.Rgb.{Rgb}
use Rattle.bptc_block.specs.declared.PBits.{PBits}
use Rattle.bptc_block.specs.declared.PBits.TheVariants.{Free, Fixed}
use Rattle.bptc_block.specs.Refusal.{unless}

-- every channel of a colour is at most the top
abbrev pub within : ℕ → Rgb → Bool
within top c = and (leb c.r top) (and (leb c.g top) (leb c.b top))

-- every channel of every colour is
abbrev pub in_range : ℕ → List Rgb → Bool
in_range top cs = all (within top) cs

-- free p-bits, or fixed ones up to the top
abbrev pub p_in_range : ℕ → PBits → Bool
p_in_range top Free = true
p_in_range top (Fixed p) = leb p top

-- 4 to 6: the partition, the endpoint channels and the p-bits, by the greatest that these may be
abbrev pub check_stored : ℕ → ℕ → ℕ → List Rgb → PBits → ℕ → ℕ
check_stored channel bits partition ends p rest =
    unless (leb partition 63) 4 (unless (in_range channel ends) 5 (unless (p_in_range bits p) 6 rest))
