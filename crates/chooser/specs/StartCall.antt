-- The call `start`: its answer. It writes to no part.
use Rattle.std.specs.Prelude.{ℕ, List, eqb, length, replicate}
use Rattle.lists.specs.Tests.{pick}
use Rattle.bptc_block.specs.Refusal.{check_pixels}
use Rattle.chooser.specs.declared.Chooser.{Chooser}
use Rattle.chooser.specs.Answers.{Started}
use Rattle.chooser.specs.Rule.{invalid}

-- check 1
abbrev pub start_refusal : List ℕ → ℕ
start_refusal px = check_pixels (length px) 0

-- a chooser over pixels that has accepted nothing
abbrev pub empty_over : List ℕ → Chooser
empty_over px = record { pixels = px; block = invalid.block; error = invalid.error }

-- the 48 bytes of black pixels
abbrev pub black_pixels : List ℕ
black_pixels = replicate 48 0

-- the pixels that a chooser is started over: those handed in, and black ones where they are not 48 bytes
unfoldable pub started_over : List ℕ → List ℕ
started_over px = pick (eqb (length px) 48) px black_pixels

-- the answer: an empty chooser, and the refusal's number
unfoldable pub start_of : List ℕ → Started
start_of px = record { refusal = start_refusal px; chooser = empty_over (started_over px) }
