-- `proposals::offer_records` meets its contract.
use Rattle.std.proofs.Common.{ℕ, ◌+◌, ◌*◌, ◌-◌, ◌<◌, ◌≡◌, List, map, length, sym, ap, ◌∙◌, arith}
use mathlib.Core.List.{map-map}
use lib.ListN.{length-map}
use Rattle.std.proofs.lemmas.List.{map-set}
use Rattle.lists.specs.Rows.{up_from}
use Rattle.lists.proofs.Rows.{written_next, written_all}
use Rattle.refusals.specs.Numbers.{declined}
use Rattle.chooser.specs.Answers.{Offered, offered}
use Rattle.chooser.specs.OfferCall.{offer_refusal, offer_of}
use Rattle.chooser.proofs.Calls.{offer-number}
use Rattle.proposals.specs.Records.{candidate_among, candidates_in}
use Rattle.proposals.proofs.Offering.{records_next}
use Rattle.proposals.proofs.offer_records.Goals as goal

pub loop-k-preserved : goal.loop-k-preserved
loop-k-preserved c =
    let at = c.loop-k in
    let records : List ℕ = c.args.records.now in
    let numbers : List ℕ = map declined c.args.answers.now in
    let whole : at.k * 16 + 16 - at.k * 16 ≡ 16 = omega arith in
    let d = c.candidate in
    let read : d.result ≡ candidate_among records at.k = rw whole at d.ensures in
    let answer : offered c.offer-given.result.0 c.offer-given.result.1 ≡ offer_of at.held (candidate_among records at.k) =
    c.offer-given.ensures ∙ ap (offer_of at.held) read in
    let number : declined c.offer-given.result.0 ≡ offer_refusal (candidate_among records at.k) =
    ap (λ (o : Offered). o.refusal) answer ∙ offer-number at.held (candidate_among records at.k) in
    let h : at.k < length numbers = rw length-map (omega arith) in (
      rw (map-set declined at.answers at.k c.offer-given.result.0, at.invariant.0, number) (written_next 0 _ numbers at.k h),
      ap (λ (o : Offered). o.chooser) answer ∙ records_next c.args.ch at.held records at.k at.invariant.1,
    )

pub returns-clause-part : goal.returns-clause-part
unfolding candidates_in
returns-clause-part c =
    let at = c.loop-k in
    let a = c.args in
    let n : ℕ = length a.answers.now in
    let e : at.k ≡ n = omega arith in
    rw e at at.invariant.0
    ∙ written_all 0 _ (map declined a.answers.now) n (simp length-map)
    ∙ sym (map-map offer_refusal (candidate_among a.records.now) (up_from 0 n))
