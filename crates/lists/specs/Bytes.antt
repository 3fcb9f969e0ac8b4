-- Bytes, which are fields of eight bits, and the number that they make: byte 0 is the lowest.
use Rattle.std.specs.Prelude.{ℕ, ◌<◌, List, get_or, length, replicate}
use Rattle.lists.specs.Bits.{split, join}

-- every element is a byte, as the type of a lent part has it
abbrev pub Bytes : List ℕ → Type 0
Bytes bs = (i : ℕ) → i < length bs → get_or bs i 0 < 256

-- the k lowest bytes of a number
unfoldable pub bytes : ℕ → ℕ → List ℕ
bytes k n = split (replicate k 8) n

-- the number that bytes make
unfoldable pub number : List ℕ → ℕ
number bs = join (replicate (length bs) 8) bs
