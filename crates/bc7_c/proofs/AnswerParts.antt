-- Refusal and error are got back from an answer.
use Prim.Native.Nat.{ℕ}
use native.Mathlib.Omega.{arith}
use mathlib.Core.Path.{◌≡◌, refl}
use lib.ListN.{length}
use borrow.Author.Tests.{eq-eqb, ne_eqb}
use Rattle.std.proofs.Common.{Result, Ok, Err}
use Rattle.refusals.specs.declared.Refusal.{Refusal}
use Rattle.bptc_block.specs.Answers.{finished, measured}
use Rattle.chooser.specs.Answers.{taken}
use Rattle.bc7_c.specs.Numbers.{answered, numbered}
use Rattle.bc7_c.specs.Calls.{finish_answer, measure_answer, take_answer}
use Rattle.bc7_c.specs.Answer.{TakenApart, AnswerParts}

-- of any refusal and error
taken-apart : (refusal error : ℕ) → TakenApart (answered refusal error) refusal error
unfolding answered
taken-apart refusal error = record { refusal_of = λ r e. omega arith; error_of = λ r e. omega arith }

-- of the three calls
pub answer_parts : AnswerParts
unfolding finish_answer measure_answer take_answer
answer_parts =
    record {
      finish = λ px c block. taken-apart _ _;
      measure = λ block px. taken-apart _ _;
      take = λ part block whole. rw (eq-eqb (length part) 68 whole) (taken-apart _ _);
      other = λ part block ne. rw (ne_eqb (length part) 68 ne) (taken-apart _ _);
    }

-- the number of an answer, by the refusal and the error that it stands for: of `finish`
pub numbered_finished : (r : Result ℕ Refusal) → numbered r ≡ answered (finished r).refusal (finished r).error
numbered_finished (Ok error) = refl
numbered_finished (Err refusal) = refl

-- of `measure`
pub numbered_measured : (r : Result ℕ Refusal) → numbered r ≡ answered (measured r).refusal (measured r).error
numbered_measured (Ok error) = refl
numbered_measured (Err refusal) = refl

-- and of `take`
pub numbered_taken : (r : Result ℕ Refusal) → numbered r ≡ answered (taken r).refusal (taken r).error
numbered_taken (Ok error) = refl
numbered_taken (Err refusal) = refl
