-- The call `offer`: its answer. It writes to no part.
use Rattle.std.specs.Prelude.{ℕ, List, eqb, replicate}
use Rattle.lists.specs.Tests.{pick}
use Rattle.bptc_block.specs.declared.Candidate.{Candidate}
use Rattle.bptc_block.specs.Refusal.{check_candidate}
use Rattle.bptc_block.specs.Compressed.{Compressed}
use Rattle.bptc_block.specs.FinishCall.{finish_of, finish_into}
use Rattle.chooser.specs.declared.Chooser.{Chooser}
use Rattle.chooser.specs.Answers.{Offered}
use Rattle.chooser.specs.Rule.{better}

-- checks 3 to 6
abbrev pub offer_refusal : Candidate → ℕ
offer_refusal c = check_candidate c 0

-- the block and the error that the call `finish` gives over pixels, lent a part of 16 bytes
unfoldable pub finish_gives : List ℕ → Candidate → Compressed
finish_gives px c = record { block = finish_into px c (replicate 16 0); error = (finish_of px c (replicate 16 0)).error }

-- the block and the error in a chooser
abbrev pub best : Chooser → Compressed
best ch = record { block = ch.block; error = ch.error }

-- a chooser with another block and error
abbrev pub with_best : Chooser → Compressed → Chooser
with_best ch k = record { pixels = ch.pixels; block = k.block; error = k.error }

-- a chooser after an accepted offer: the better of its block and the finished one
abbrev pub accepting : Chooser → Candidate → Chooser
accepting ch c = with_best ch (better (best ch) (finish_gives ch.pixels c))

-- the answer: the chooser after the offer, or the refusal and the chooser as it was
unfoldable pub offer_of : Chooser → Candidate → Offered
offer_of ch c =
    pick (eqb (offer_refusal c) 0)
    (record { refusal = 0; chooser = accepting ch c })
    (record { refusal = offer_refusal c; chooser = ch })
