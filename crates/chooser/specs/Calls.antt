-- A list of offers and takes after one start, each over the chooser that the call before it handed back.
use Rattle.std.specs.Prelude.{ℕ, List, [], ◌∷◌, eqb}
use Rattle.lists.specs.Tests.{pick}
use Rattle.bptc_block.specs.declared.Candidate.{Candidate}
use Rattle.bptc_block.specs.Compressed.{Compressed}
use Rattle.chooser.specs.declared.Chooser.{Chooser}
use Rattle.chooser.specs.OfferCall.{offer_of}
use Rattle.chooser.specs.TakeCall.{take_of, take_into}

-- a call after the start: an offer of a candidate, or a take that is lent a part
pub data Call : Type 0 where
  offer : Candidate → Call
  take : List ℕ → Call

-- the chooser that a call hands back
abbrev pub handed_back : Chooser → Call → Chooser
handed_back ch (offer c) = (offer_of ch c).chooser
handed_back ch (take part) = (take_of ch part).chooser

-- the candidate of a call that is accepted, before those of later calls: an offer whose answer's number is 0
abbrev pub accepted_by : Chooser → Call → List Candidate → List Candidate
accepted_by ch (offer c) later = pick (eqb (offer_of ch c).refusal 0) (c ∷ later) later
accepted_by ch (take part) later = later

-- the chooser after the list
unfoldable pub after : Chooser → List Call → Chooser
after ch [] = ch
after ch (call ∷ calls) = after (handed_back ch call) calls

-- the candidates accepted in the list, in order
unfoldable pub accepted : Chooser → List Call → List Candidate
accepted ch [] = []
accepted ch (call ∷ calls) = accepted_by ch call (accepted (handed_back ch call) calls)

-- what is held: the block and the error that a take gives, which is lent a part of 16 bytes
unfoldable pub held : Chooser → List ℕ → Compressed
held ch part = record { block = take_into ch part; error = (take_of ch part).answer.error }
