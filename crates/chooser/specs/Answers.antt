-- What the calls answer, by the numbers of the refusals: 0 where nothing is declined, and after a refusal error 0. And what the two values
-- that the code gives stand for, case by case.
use Rattle.std.specs.Prelude.{ℕ, ◌≡◌, Result, Ok, Err}
use Rattle.refusals.specs.declared.Refusal.{Refusal}
use Rattle.refusals.specs.declared.Refusal.TheVariants.{PixelPart, BlockPart, Mode}
use Rattle.refusals.specs.Numbers.{number_of, declined}
use Rattle.chooser.specs.declared.Chooser.{Chooser}

-- a start: the chooser
pub record Started : Type 0 where
  pub refusal : ℕ
  pub chooser : Chooser

-- an offer: the chooser handed back
pub record Offered : Type 0 where
  pub refusal : ℕ
  pub chooser : Chooser

-- a take: the held block's error
pub record Taken : Type 0 where
  pub refusal : ℕ
  pub error : ℕ

-- this beside the chooser
pub record TakeAnswer : Type 0 where
  pub answer : Taken
  pub chooser : Chooser

-- what `start` gives
abbrev pub started : Result (Unit {0}) Refusal → Chooser → Started
started answer ch = record { refusal = declined answer; chooser = ch }

-- what `offer` gives
abbrev pub offered : Result (Unit {0}) Refusal → Chooser → Offered
offered answer ch = record { refusal = declined answer; chooser = ch }

-- an answer of `take`
abbrev pub taken : Result ℕ Refusal → Taken
taken (Ok error) = record { refusal = 0; error = error }
taken (Err refusal) = record { refusal = number_of refusal; error = 0 }

-- what `take` gives
abbrev pub took : Result ℕ Refusal → Chooser → TakeAnswer
took answer ch = record { answer = taken answer; chooser = ch }

-- rows worked by hand: a chooser with an answer that is not declined, with one that is, and a take's error
pub record AnswersWorked : Type 0 where
  pub start : (ch : Chooser) → started (Ok tt) ch ≡ record { refusal = 0; chooser = ch }
  pub no_start : (ch : Chooser) → started (Err PixelPart) ch ≡ record { refusal = 1; chooser = ch }
  pub offer : (ch : Chooser) → offered (Ok tt) ch ≡ record { refusal = 0; chooser = ch }
  pub no_offer : (ch : Chooser) → offered (Err Mode) ch ≡ record { refusal = 3; chooser = ch }
  pub take : (ch : Chooser) → took (Ok 7) ch ≡ record { answer = record { refusal = 0; error = 7 }; chooser = ch }
  pub no_take : (ch : Chooser) → took (Err BlockPart) ch ≡ record { answer = record { refusal = 2; error = 0 }; chooser = ch }
