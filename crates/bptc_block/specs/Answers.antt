-- What the calls answer, by the numbers of the refusals: 0 where nothing is declined, and after a refusal all else zero. And what an answer
-- of the code stands for, case by case.
use Rattle.std.specs.Prelude.{ℕ, List, Result, Ok, Err, replicate}
use Rattle.refusals.specs.declared.Refusal.{Refusal}
use Rattle.refusals.specs.Numbers.{number_of}
use Rattle.bptc.specs.declared.Rgb.{Rgb}
use Rattle.bptc_block.specs.declared.Fields.{Fields}
use Rattle.bptc_block.specs.declared.Reading.{Reading}

-- finishing: the block's error
pub record Finished : Type 0 where
  pub refusal : ℕ
  pub error : ℕ

-- measuring: the block's error
pub record Measured : Type 0 where
  pub refusal : ℕ
  pub error : ℕ

-- reading: the block's mode and fields
pub record BlockRead : Type 0 where
  pub refusal : ℕ
  pub mode : ℕ
  pub partition : ℕ
  pub ends : List Rgb
  pub p : ℕ
  pub indices : List ℕ

-- the reading of a mode and its fields
abbrev pub reading_of : ℕ → Fields → BlockRead
reading_of mode f =
    record { refusal = 0; mode = mode; partition = f.partition; ends = f.ends; p = f.p; indices = f.indices }

-- a refusal, with all else zero
abbrev pub unread : ℕ → BlockRead
unread k = record { refusal = k; mode = 0; partition = 0; ends = replicate 4 (record { r = 0; g = 0; b = 0 }); p = 0; indices = replicate 16 0 }

-- an answer of `finish`
abbrev pub finished : Result ℕ Refusal → Finished
finished (Ok error) = record { refusal = 0; error = error }
finished (Err refusal) = record { refusal = number_of refusal; error = 0 }

-- an answer of `measure`
abbrev pub measured : Result ℕ Refusal → Measured
measured (Ok error) = record { refusal = 0; error = error }
measured (Err refusal) = record { refusal = number_of refusal; error = 0 }

-- an answer of `read`
abbrev pub block_read : Result Reading Refusal → BlockRead
block_read (Ok r) = reading_of r.mode r.fields
block_read (Err refusal) = unread (number_of refusal)
