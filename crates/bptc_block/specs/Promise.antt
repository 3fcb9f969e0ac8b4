-- The finisher's promise: what holds of the block and the error of every candidate that is not declined.
use Rattle.std.specs.Prelude.{ℕ, ◌≤◌, ◌≡◌, List, length}
use Rattle.lists.specs.Bytes.{Bytes}
use Rattle.bptc_block.specs.declared.Candidate.{Candidate}
use Rattle.bptc_block.specs.RgbaCandidate.{rgba_candidate}
use Rattle.bptc_block.specs.Chapter.{distance}
use Rattle.bptc_block.specs.Allowed.{Allowed}
use Rattle.bptc_block.specs.MeasureCall.{measure_of}
use Rattle.bptc_block.specs.FinishCall.{finish_of, finish_into}

pub record FinishPromise (px : List ℕ) (c : Candidate) (block : List ℕ) (error : ℕ) : Type 0 where
  -- the error is the distance between the pixels and the block as the chapter reads it
  pub exact : error ≡ distance px block
  -- no block that the candidate could have become lies closer
  pub closest : (other : List ℕ) → Allowed (rgba_candidate c) other → error ≤ distance px other
  -- and the block is one of these
  pub allowed : Allowed (rgba_candidate c) block
  -- 16 × 195,075, where the pixels are bytes
  pub bound : Bytes px → error ≤ 3121200

-- the promise of the call, for four endpoints as the type of a candidate has them
abbrev pub FinishKeeps : Type 0
FinishKeeps =
    (px : List ℕ) (c : Candidate) (part : List ℕ) → length c.ends ≡ 4 → (finish_of px c part).refusal ≡ 0 →
    FinishPromise px c (finish_into px c part) (finish_of px c part).error

-- so `measure` gives a finished block the same error
abbrev pub MeasuredAsFinished : Type 0
MeasuredAsFinished =
    (px : List ℕ) (c : Candidate) (part : List ℕ) → length c.ends ≡ 4 → (finish_of px c part).refusal ≡ 0 →
    measure_of (finish_into px c part) px ≡ record { refusal = 0; error = (finish_of px c part).error }
