-- What the code's words stand for.
use Rattle.std.specs.Prelude.{ℕ, map, eqb, replicate}
use Rattle.lists.specs.Tests.{pick}
use Rattle.lists.specs.Bits.{split}
use Rattle.bptc.specs.Internal.Pixels.{pixel_of}
use Rattle.bptc_block.specs.declared.Fields.{Fields}
use Rattle.bptc_block.specs.declared.FieldWords.{FieldWords}
use Rattle.bptc_block.specs.declared.Candidate.{Candidate}
use Rattle.bptc_block.specs.declared.CandidateWords.{CandidateWords}
use Rattle.bptc_block.specs.declared.PBits.{PBits}
use Rattle.bptc_block.specs.declared.PBits.TheVariants.{Free, Fixed}

-- the fields that words stand for, by the bits of an index
abbrev pub word_fields : ℕ → FieldWords → Fields
word_fields bits w =
    record { partition = w.partition; ends = map pixel_of w.ends; p = w.p; indices = split (replicate 16 bits) w.indexes }

-- the candidate that words stand for
abbrev pub word_candidate : CandidateWords → Candidate
word_candidate w = record { mode = w.mode; partition = w.partition; ends = map pixel_of w.ends; p = w.p }

-- a candidate's p-bits as two numbers: fixed where the second is 0, and else free
abbrev pub p_bits_of : ℕ → ℕ → PBits
p_bits_of p free = pick (eqb free 0) (Fixed p) Free
