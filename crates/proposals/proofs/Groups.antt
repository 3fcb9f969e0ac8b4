-- Laws of the block of a group.
use Prim.Native.Nat.{ℕ}
use mathlib.Core.Path.{◌≡◌, refl, sym, ap, ◌∙◌}
use mathlib.Core.List.{List, [], ◌∷◌}
use lib.Dec.{eqb, leb}
use lib.ListN.{length, replicate}
use Rattle.lists.proofs.Tests.{pick_elim}
use Rattle.bptc_block.specs.declared.Candidate.{Candidate}
use Rattle.bptc_block.specs.Finish.{finished_by}
use Rattle.bptc_block.specs.FinishCall.{finish_refusal, finish_into}
use Rattle.bptc_block.specs.Compressed.{Compressed}
use Rattle.bptc_block.proofs.Packed.{packed-length}
use Rattle.chooser.specs.declared.Chooser.{Chooser}
use Rattle.chooser.specs.Answers.{Started, Offered}
use Rattle.chooser.specs.StartCall.{started_over, start_of}
use Rattle.chooser.specs.OfferCall.{finish_gives, best, offer_of}
use Rattle.chooser.specs.Calls.{after, held}
use Rattle.std.specs.Prelude.{Result, Ok, Err}
use Rattle.std.specs.Result.{result_unwrap_or}
use Rattle.refusals.specs.declared.Refusal.{Refusal}
use Rattle.chooser.specs.Answers.{taken}
use Rattle.chooser.proofs.Calls.{start_answer, offer_cases, held_kept}
use Rattle.proposals.specs.Offers.{offers}
use Rattle.proposals.specs.BuiltIn.{proposals_of}
use Rattle.proposals.specs.Baking.{chooser_for, baked}

-- what is held after the built-in proposals, whatever 16 bytes a take is lent
pub baked-held : (px part : List ℕ) (s : Started) (ch : Chooser) → length part ≡ 16 → s ≡ start_of px →
    ch ≡ after s.chooser (offers (proposals_of s.chooser.pixels)) → held ch part ≡ baked px
unfolding baked
baked-held px part s ch sixteen e f =
    let over : (start_of px).chooser.pixels ≡ started_over px = ap (λ (s : Started). s.chooser.pixels) (start_answer px) in
    let same : ch ≡ chooser_for px =
    f
    ∙ ap (λ (s : Started). after s.chooser (offers (proposals_of s.chooser.pixels))) e
    ∙ ap (λ (bs : List ℕ). after (start_of px).chooser (offers (proposals_of bs))) over in
    held_kept ch part sixteen ∙ ap best same ∙ sym (held_kept (chooser_for px) (replicate 16 0) refl)

-- a finished block has 16 bytes
gives_length : (px : List ℕ) (c : Candidate) → length (finish_gives px c).block ≡ 16
unfolding finish_gives finish_into finished_by
gives_length px c =
    pick_elim (λ (bs : List ℕ). length bs ≡ 16) (eqb (finish_refusal px c (replicate 16 0)) 0) (λ t. packed-length _ _) (λ t. refl)

-- and so has the one held
after-length : (cs : List Candidate) (ch : Chooser) → length ch.block ≡ 16 → length (after ch (offers cs)).block ≡ 16
unfolding after
after-length [] ch h = h
after-length (c ∷ cs) ch h =
    after-length cs (offer_of ch c).chooser
    (offer_cases ch c (λ (o : Offered). length o.chooser.block ≡ 16)
    (λ ok. pick_elim (λ (k : Compressed). length k.block ≡ 16) (leb ch.error (finish_gives ch.pixels c).error)
    (λ t. h) (λ t. gives_length ch.pixels c))
    (λ t. h))

-- the block of a group has 16 bytes
pub baked-length : (px : List ℕ) → length (baked px).block ≡ 16
unfolding baked
baked-length px =
    let empty : length (start_of px).chooser.block ≡ 16 = ap (λ (s : Started). length s.chooser.block) (start_answer px) in
    rw (held_kept (chooser_for px) (replicate 16 0) refl) (after-length (proposals_of (started_over px)) (start_of px).chooser empty)

-- the error that a take gives, 0 where it is declined
pub taken-error : (r : Result ℕ Refusal) → result_unwrap_or r 0 ≡ (taken r).error
taken-error (Ok error) = refl
taken-error (Err refusal) = refl
