-- Laws of offers one after the other: those of more candidates, of a partition's proposals, and of a record.
use Prim.Native.Nat.{ℕ, ◌+◌}
use native.Mathlib.Numerals.{add-one}
use mathlib.Core.Path.{◌≡◌, refl, sym, ap, ◌∙◌}
use mathlib.Core.List.{List, [], ◌∷◌, ◌++◌, map-append}
use Rattle.lists.specs.Parts.{joined}
use Rattle.lists.proofs.Rows.{each-suc}
use Rattle.bptc_block.specs.declared.Candidate.{Candidate}
use Rattle.chooser.specs.declared.Chooser.{Chooser}
use Rattle.chooser.specs.Answers.{Offered}
use Rattle.chooser.specs.OfferCall.{offer_of}
use Rattle.chooser.specs.Calls.{Call, offer, handed_back, after}
use Rattle.chooser.proofs.Calls.{offer_cases}
use Rattle.proposals.specs.Offers.{offers}
use Rattle.proposals.specs.Records.{candidate_among, candidates_in}
use Rattle.proposals.specs.BuiltIn.{both_of, proposals_to}

-- calls after others
after-calls : (xs ys : List Call) (ch : Chooser) → after ch (xs ++ ys) ≡ after (after ch xs) ys
unfolding after
after-calls [] ys ch = refl
after-calls (x ∷ xs) ys ch = after-calls xs ys (handed_back ch x)

-- candidates after others
after_more : (ch : Chooser) (cs ds : List Candidate) → after ch (offers (cs ++ ds)) ≡ after (after ch (offers cs)) (offers ds)
after_more ch cs ds = rw (map-append offer cs ds) (after-calls (offers cs) (offers ds) ch)

-- offers leave the pixels as they were
pub after-pixels : (cs : List Candidate) (ch : Chooser) → (after ch (offers cs)).pixels ≡ ch.pixels
unfolding after
after-pixels [] ch = refl
after-pixels (c ∷ cs) ch =
    after-pixels cs (offer_of ch c).chooser
    ∙ offer_cases ch c (λ (o : Offered). o.chooser.pixels ≡ ch.pixels) (λ ok. refl) (λ t. refl)

-- the candidates of one record more
candidates_next : (records : List ℕ) (k : ℕ) → candidates_in records (k + 1) ≡ candidates_in records k ++ (candidate_among records k ∷ [])
unfolding candidates_in
candidates_next records k = rw add-one (each-suc (candidate_among records) k)

module _ (ch held : Chooser) where
  -- from the chooser after the first candidates
  goes_on : (cs ds : List Candidate) → held ≡ after ch (offers cs) → after held (offers ds) ≡ after ch (offers (cs ++ ds))
  goes_on cs ds e = ap (λ (h : Chooser). after h (offers ds)) e ∙ sym (after_more ch cs ds)

  -- the proposals of one more partition
  pub proposals_next : (n : ℕ) → held ≡ after ch (offers (proposals_to ch.pixels n)) →
      after held (offers (both_of held.pixels n)) ≡ after ch (offers (proposals_to ch.pixels (n + 1)))
  unfolding joined
  proposals_next n e =
      let same : held.pixels ≡ ch.pixels = ap (λ (h : Chooser). h.pixels) e ∙ after-pixels (proposals_to ch.pixels n) ch in
      ap (λ (px : List ℕ). after held (offers (both_of px n))) same
      ∙ rw add-one (goes_on (proposals_to ch.pixels n) (both_of ch.pixels n) e)

  -- the candidate of one more record
  pub records_next : (records : List ℕ) (k : ℕ) → held ≡ after ch (offers (candidates_in records k)) →
      (offer_of held (candidate_among records k)).chooser ≡ after ch (offers (candidates_in records (k + 1)))
  unfolding after
  records_next records k e =
      goes_on (candidates_in records k) (candidate_among records k ∷ []) e
      ∙ ap (λ (cs : List Candidate). after ch (offers cs)) (sym (candidates_next records k))
