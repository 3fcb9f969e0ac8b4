-- An answer of 64 bits, as C takes it apart.
use Rattle.std.specs.Prelude.{ℕ, ◌/◌, ◌%◌, ◌<◌, ◌≡◌, List, length}
use Rattle.bptc_block.specs.declared.Candidate.{Candidate}
use Rattle.bptc_block.specs.FinishCall.{finish_of}
use Rattle.bptc_block.specs.MeasureCall.{measure_of}
use Rattle.chooser.specs.TakeCall.{take_of}
use Rattle.bc7_c.specs.Parts.{chooser_in}
use Rattle.bc7_c.specs.Calls.{finish_answer, measure_answer, take_answer}

-- BC7_REFUSAL and BC7_ERROR get this refusal and this error from an answer, where both are numbers of their types
pub record TakenApart (answer refusal error : ℕ) : Type 0 where
  pub refusal_of : refusal < 256 → error < 4294967296 → answer / 4294967296 % 4294967296 ≡ refusal
  pub error_of : refusal < 256 → error < 4294967296 → answer % 4294967296 ≡ error

-- the three calls that answer so, with the refusal and the error of the calls that they wrap
pub record AnswerParts : Type 0 where
  pub finish : (px : List ℕ) (c : Candidate) (block : List ℕ) →
      TakenApart (finish_answer px c block) (finish_of px c block).refusal (finish_of px c block).error
  pub measure : (block px : List ℕ) → TakenApart (measure_answer block px) (measure_of block px).refusal (measure_of block px).error
  pub take : (part block : List ℕ) → length part ≡ 68 →
      TakenApart (take_answer part block) (take_of (chooser_in part) block).answer.refusal (take_of (chooser_in part) block).answer.error
  -- and for a chooser part of another length
  pub other : (part block : List ℕ) → (length part ≡ 68 → ⊥) → TakenApart (take_answer part block) 255 0
