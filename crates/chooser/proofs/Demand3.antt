-- Demand 3, by the laws of the three calls and the finisher's promise alone.
use Prim.Native.Nat.{ℕ, ◌<◌}
use native.Mathlib.Nat.{le_trans}
use native.Mathlib.Omega.{arith}
use mathlib.Core.Path.{◌≡◌, refl, sym, ap, ◌∙◌, subst}
use mathlib.Core.Logic.{inl, inr}
use mathlib.Core.List.{List, [], ◌∷◌, Memᴰ}
use lib.Dec.{eqb, leb}
use lib.ListN.{length}
use borrow.Author.Tests.{lt-leb}
use Rattle.lists.specs.Tests.{pick}
use Rattle.lists.specs.Bytes.{Bytes}
use Rattle.lists.specs.Least.{first_least}
use Rattle.lists.proofs.Tests.{pick-map}
use Rattle.lists.proofs.Least.{least-none, least-next, least-all, least-keeps, earliest}
use Rattle.bptc_block.specs.declared.Candidate.{Candidate}
use Rattle.bptc_block.specs.Compressed.{Compressed}
use Rattle.bptc_block.specs.Promise.{FinishPromise}
use Rattle.chooser.specs.declared.Chooser.{Chooser}
use Rattle.chooser.specs.Answers.{Started, Offered}
use Rattle.chooser.specs.Rule.{invalid, better}
use Rattle.chooser.specs.StartCall.{empty_over, started_over, start_of}
use Rattle.chooser.specs.OfferCall.{offer_refusal, finish_gives, best, accepting}
use Rattle.chooser.specs.Calls.{Call, offer, take, after, accepted, held}
use Rattle.chooser.specs.Demand3.{Promise, SomeAccepted, FourEnds, Demand3, BeforeAny}
use Rattle.chooser.proofs.Calls.{start_answer, started_own, started_black, started_bytes, started_length, offer_cases, gives_keeps, take-keeps, held_kept}

-- accepted offers one after the other, from a chooser to the one after them
data AcceptedOffers : Chooser → List Candidate → Chooser → Type 0 where
  none : {ch : Chooser} → AcceptedOffers ch [] ch
  more : {ch end : Chooser} {c : Candidate} {cs : List Candidate} → offer_refusal c ≡ 0 → AcceptedOffers (accepting ch c) cs end → AcceptedOffers ch (c ∷ cs) end

-- a list of calls does what its accepted offers do: takes and declined offers leave the chooser as it was
accepted-offers : (calls : List Call) (ch : Chooser) → AcceptedOffers ch (accepted ch calls) (after ch calls)
unfolding after accepted
accepted-offers [] ch = none
accepted-offers (take part ∷ calls) ch = rw (take-keeps ch part) (accepted-offers calls ch)
accepted-offers (offer c ∷ calls) ch =
    offer_cases ch c (λ (o : Offered). AcceptedOffers ch (pick (eqb o.refusal 0) (c ∷ accepted o.chooser calls) (accepted o.chooser calls)) (after o.chooser calls))
    (λ ok. more ok (accepted-offers calls (accepting ch c)))
    (λ t. rw t (accepted-offers calls ch))

-- no check declines an accepted candidate
accepted_good : {ch end : Chooser} {cs : List Candidate} → AcceptedOffers ch cs end → (c : Candidate) → Memᴰ c cs → offer_refusal c ≡ 0
accepted_good none c m = absurd (mathlib.Core.List.Memᴰ.not-nil m)
accepted_good (more ok rest) c m = elim (mathlib.Core.List.Memᴰ.cases_cons m) [ inl e ↦ rw e ok | inr n ↦ accepted_good rest c n ]

module _ (px part : List ℕ) (sixteen : length part ≡ 16) where
  -- the error that finishing gives
  abbrev error : Candidate → ℕ
  error c = (finish_gives px c).error

  -- a chooser that keeps what finishing gave for one candidate goes on to the first of least error
  goes_on : {ch end : Chooser} {cs : List Candidate} (first : Candidate) → AcceptedOffers ch cs end → ch.pixels ≡ px → best ch ≡ finish_gives px first →
      held end part ≡ finish_gives px (first_least error first cs)
  goes_on {ch} first none p e = rw (least-none error first) (held_kept ch part sixteen ∙ e)
  goes_on {ch} first (more {c = c} {cs = cs} ok rest) p e =
      rw (least-next error first c cs)
      (goes_on (pick (leb (error first) (error c)) first c) rest p (ap (λ (k : Compressed). better k (finish_gives ch.pixels c)) e ∙ rw p (sym (pick-map (finish_gives px) (leb (error first) (error c)) first c))))

  -- from an empty chooser on: the first accepted candidate is kept, since its error is below that of `invalid`
  promise : {end : Chooser} (cs : List Candidate) → AcceptedOffers (empty_over px) cs end → length px ≡ 48 → Bytes px → FourEnds cs → SomeAccepted cs → Promise px cs (held end part)
  unfolding finish_gives
  promise [] all long bytes four some = absurd (some refl)
  promise {end} (c ∷ cs) (more ok rest) long bytes four some =
      let promised : (d : Candidate) → Memᴰ d (c ∷ cs) → FinishPromise px d (finish_gives px d).block (error d) =
      λ d m. gives_keeps px d long (four d m) (accepted_good (more ok rest) d m) in
      let small : error c < invalid.error = omega (arith, (promised c (mathlib.Core.List.Memᴰ.head refl)).bound bytes) in
      let w : Candidate = first_least error c cs in
      let won : Memᴰ w (c ∷ cs) = least-keeps error (λ (d : Candidate). Memᴰ d (c ∷ cs)) cs c (λ d m. m) in
      let same : held end part ≡ finish_gives px w = goes_on c rest refl (rw (lt-leb invalid.error (error c) small)) in
      rw same
      record {
        exact = (promised w won).exact;
        winner = w;
        earliest = earliest error cs c;
        block = refl;
        error = refl;
        closest = λ d m block a. le_trans (least-all error cs c m) ((promised d m).closest block a);
        allowed = (promised w won).allowed;
      }

-- after a start and any calls, once an offer was accepted
pub demand3 : Demand3
demand3 px calls part bytes four some sixteen =
    let ch : Chooser = (start_of px).chooser in
    let all : AcceptedOffers (empty_over (started_over px)) (accepted ch calls) (after ch calls) =
    subst (λ (s : Started). AcceptedOffers s.chooser (accepted ch calls) (after ch calls)) (start_answer px) (accepted-offers calls ch) in
    let over : Promise (started_over px) (accepted ch calls) (held (after ch calls) part) =
    promise (started_over px) part sixteen (accepted ch calls) all (started_length px) (started_bytes px bytes) four some in
    (λ own. rw (started_own px own) at over, λ other. rw (started_black px other) at over)

-- before that
pub before_any : BeforeAny
before_any px calls part nothing sixteen =
    let ch : Chooser = (start_of px).chooser in
    let end : after ch calls ≡ ch = stays (subst (λ (cs : List Candidate). AcceptedOffers ch cs (after ch calls)) nothing (accepted-offers calls ch)) in
    ap (λ (k : Chooser). held k part) end ∙ held_kept ch part sixteen ∙ ap (λ (s : Started). best s.chooser) (start_answer px)
  where
    stays : {ch end : Chooser} → AcceptedOffers ch [] end → end ≡ ch
    stays none = refl
