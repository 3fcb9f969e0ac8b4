-- P-bits that come as one number, as the list of bool that the Rust takes.
use Rattle.std.specs.Prelude.{ℕ, Bool, List, map}
use Rattle.std.specs.Int.Bits.{bit_and}
use Rattle.lists.specs.Rows.{up_from}
use Rattle.bptc_rust.specs.Words.{shr, differs}

-- bit k
abbrev pub p_bit_at : ℕ → ℕ → Bool
p_bit_at p k = differs (bit_and (shr p k) 1) 0

-- the lowest n bits
abbrev pub p_list : ℕ → ℕ → List Bool
p_list n p = map (p_bit_at p) (up_from 0 n)
