-- `proposals::offer_records` meets its contract. The invariant: the first k candidates were offered, and their answers written.
use Rattle.std.proofs.Common.{ℕ, ◌≡◌, map}
use Rattle.lists.specs.Rows.{written}
use Rattle.refusals.specs.Numbers.{declined}
use Rattle.chooser.specs.OfferCall.{offer_refusal}
use Rattle.chooser.specs.Calls.{after}
use Rattle.proposals.specs.Offers.{offers}
use Rattle.proposals.specs.Records.{candidate_among, candidates_in}
use Rattle.proposals.proofs.offer_records.Given as goal

abbrev pub invariant-loop-k : goal.invariant-loop-k
invariant-loop-k l =
    (map declined l.answers ≡ written (λ (i : ℕ). offer_refusal (candidate_among l.records i)) l.k (map declined l.initial.answers))
    × (l.held ≡ after l.initial.held (offers (candidates_in l.records l.k)))
