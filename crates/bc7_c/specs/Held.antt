-- A chooser in its part: what the next call finds there is the chooser that the last one handed back, so that demand 3 holds of C's
-- calls as well; and a declined offer leaves the part as it was.
use Rattle.std.specs.Prelude.{ℕ, ◌≡◌, List, length}
use Rattle.lists.specs.Bytes.{Bytes}
use Rattle.bptc_block.specs.declared.Candidate.{Candidate}
use Rattle.chooser.specs.StartCall.{start_of}
use Rattle.chooser.specs.OfferCall.{offer_of}
use Rattle.bc7_c.specs.Parts.{chooser_in}
use Rattle.bc7_c.specs.Calls.{start_part, offer_answer, offer_part}

-- after a start
abbrev pub StartHeld : Type 0
StartHeld = (px part : List ℕ) → length part ≡ 68 → chooser_in (start_part px part) ≡ (start_of px).chooser

-- and after an offer, of a candidate with four endpoints as its type has them
abbrev pub OfferHeld : Type 0
OfferHeld =
    (part : List ℕ) (c : Candidate) → length part ≡ 68 → Bytes part → length c.ends ≡ 4 →
    chooser_in (offer_part part c) ≡ (offer_of (chooser_in part) c).chooser

-- after an offer that is declined, by a check or for the part's length
abbrev pub DeclinedLeaves : Type 0
DeclinedLeaves = (part : List ℕ) (c : Candidate) → Bytes part → (offer_answer part c ≡ 0 → ⊥) → offer_part part c ≡ part
