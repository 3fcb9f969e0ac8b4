-- The numbers that C hands over, any of their type, and what they stand for.
use Rattle.std.specs.Prelude.{ℕ, ◌+◌, ◌*◌, ◌/◌, ◌%◌, ◌^◌, List, [], ◌∷◌, Result, Ok, Err, map, replicate}
use Rattle.lists.specs.Bits.{split}
use Rattle.refusals.specs.declared.Refusal.{Refusal}
use Rattle.refusals.specs.Numbers.{number_of}
use Rattle.bptc.specs.declared.Rgb.{Rgb}
use Rattle.bptc_block.specs.declared.Candidate.{Candidate}
use Rattle.bptc_block.specs.declared.Fields.{Fields}
use Rattle.bptc_block.specs.Internal.Words.{p_bits_of}

-- an endpoint: red is the lowest byte, green the next, and blue all that is above, so that a bit above the third byte is out of range
unfoldable pub end_in : ℕ → Rgb
end_in n = record { r = n % 256; g = n / 256 % 256; b = n / 65536 }

-- sixteen indices of four bits each, that of pixel 0 lowest
abbrev pub indices_of : ℕ → List ℕ
indices_of n = split (replicate 16 4) n

-- a candidate, with its endpoints as one list
abbrev pub candidate_at : ℕ → ℕ → List ℕ → ℕ → ℕ → Candidate
candidate_at mode partition ends p free = record { mode = mode; partition = partition; ends = map end_in ends; p = p_bits_of p free }

-- and one by one
abbrev pub candidate_of : ℕ → ℕ → ℕ → ℕ → ℕ → ℕ → ℕ → ℕ → Candidate
candidate_of mode partition e0 e1 e2 e3 p free = candidate_at mode partition (e0 ∷ e1 ∷ e2 ∷ e3 ∷ []) p free

-- what `pack` is handed besides the mode, with its endpoints as one list
abbrev pub packed_at : ℕ → List ℕ → ℕ → ℕ → Fields
packed_at partition ends p indices = record { partition = partition; ends = map end_in ends; p = p; indices = indices_of indices }

-- and one by one
abbrev pub packed_of : ℕ → ℕ → ℕ → ℕ → ℕ → ℕ → ℕ → Fields
packed_of partition e0 e1 e2 e3 p indices = packed_at partition (e0 ∷ e1 ∷ e2 ∷ e3 ∷ []) p indices

-- a refusal and an error as one number, the error in the 32 lowest bits
unfoldable pub answered : ℕ → ℕ → ℕ
answered refusal error = refusal * 2 ^ 32 + error

-- the answer of a call that gives an error, as one number
abbrev pub numbered : Result ℕ Refusal → ℕ
numbered (Ok error) = answered 0 error
numbered (Err refusal) = answered (number_of refusal) 0
