-- Laws of the calls `start`, `offer` and `take`: what they give, what they decline, and what is held.
use Prim.Native.Nat.{ℕ}
use mathlib.Core.Path.{◌≡◌, refl, ◌∙◌}
use mathlib.Core.Bool.{false}
use mathlib.Core.List.{List}
use lib.Dec.{eqb}
use lib.ListN.{length, replicate}
use borrow.Author.Tests.{eqb-true, eq-eqb, ne_eqb}
use Rattle.lists.specs.Bytes.{Bytes}
use Rattle.lists.proofs.Tests.{pick_elim}
use Rattle.lists.proofs.Bytes.{zero-bytes}
use Rattle.bptc_block.specs.declared.Candidate.{Candidate}
use Rattle.bptc_block.specs.Finish.{finish}
use Rattle.bptc_block.specs.FinishCall.{finish_of}
use Rattle.bptc_block.specs.Promise.{FinishPromise}
use Rattle.bptc_block.proofs.Refusals.{number_said}
use Rattle.bptc_block.proofs.FinishCall.{finish-declines, finish-answer, finish-block}
use Rattle.bptc_block.proofs.Promise.{finish-keeps}
use Rattle.chooser.specs.declared.Chooser.{Chooser}
use Rattle.chooser.specs.Answers.{Offered, Taken}
use Rattle.chooser.specs.StartCall.{start_refusal, empty_over, black_pixels, started_over, start_of}
use Rattle.chooser.specs.OfferCall.{offer_refusal, finish_gives, best, accepting, offer_of}
use Rattle.chooser.specs.TakeCall.{take_refusal, take_of, take_into}
use Rattle.chooser.specs.Calls.{held}

module _ (px : List ℕ) where
  -- the answer of a start
  pub start_answer : start_of px ≡ record { refusal = start_refusal px; chooser = empty_over (started_over px) }
  unfolding start_of
  start_answer = refl

  -- over 48 bytes
  pub started_own : length px ≡ 48 → started_over px ≡ px
  unfolding started_over
  started_own e = rw (eq-eqb (length px) 48 e)

  -- over any other number
  pub started_black : (length px ≡ 48 → ⊥) → started_over px ≡ black_pixels
  unfolding started_over
  started_black ne = rw (ne_eqb (length px) 48 ne)

  -- these pixels are bytes
  pub started_bytes : Bytes px → Bytes (started_over px)
  unfolding started_over
  started_bytes h = pick_elim Bytes (eqb (length px) 48) (λ t. h) (λ t. zero-bytes 48)

  -- and there are 48 of them
  pub started_length : length (started_over px) ≡ 48
  unfolding started_over
  started_length = pick_elim (λ (bs : List ℕ). length bs ≡ 48) (eqb (length px) 48) (λ t. eqb-true (length px) 48 t) (λ t. refl)

module _ (ch : Chooser) (c : Candidate) where
  -- an offer by cases: accepted or declined
  pub offer_cases : (P : Offered → Type 0) →
      (offer_refusal c ≡ 0 → P (record { refusal = 0; chooser = accepting ch c })) →
      (eqb (offer_refusal c) 0 ≡ false → P (record { refusal = offer_refusal c; chooser = ch })) → P (offer_of ch c)
  unfolding offer_of
  offer_cases P taken left = pick_elim P (eqb (offer_refusal c) 0) (λ t. taken (eqb-true _ _ t)) left

  -- its number
  pub offer-number : (offer_of ch c).refusal ≡ offer_refusal c
  unfolding offer_of
  offer-number = number_said (λ (o : Offered). o.refusal) (offer_refusal c) refl refl

  -- a declined one
  pub offer_declined : (offer_refusal c ≡ 0 → ⊥) → offer_of ch c ≡ record { refusal = offer_refusal c; chooser = ch }
  unfolding offer_of
  offer_declined ne = rw (ne_eqb (offer_refusal c) 0 ne)

  -- an accepted one
  pub offer_accepted : offer_refusal c ≡ 0 → offer_of ch c ≡ record { refusal = 0; chooser = accepting ch c }
  unfolding offer_of
  offer_accepted ok = rw ok

-- what finishing promises of an accepted candidate
pub gives_keeps : (px : List ℕ) (c : Candidate) → length px ≡ 48 → length c.ends ≡ 4 → offer_refusal c ≡ 0 →
    FinishPromise px c (finish_gives px c).block (finish_gives px c).error
unfolding finish_gives
gives_keeps px c p four ok = finish-keeps px c (replicate 16 0) four (finish-declines px c (replicate 16 0) p refl ∙ ok)

-- and what it gives
pub gives_finished : (px : List ℕ) (c : Candidate) → length px ≡ 48 → offer_refusal c ≡ 0 → finish_gives px c ≡ finish px c
unfolding finish_gives
gives_finished px c p ok =
    let none : (finish_of px c (replicate 16 0)).refusal ≡ 0 = finish-declines px c (replicate 16 0) p refl ∙ ok in
    rw (finish-block px c (replicate 16 0) none, finish-answer px c (replicate 16 0) none)

module _ (ch : Chooser) (part : List ℕ) where
  -- a take alters no chooser, declined or not
  pub take-keeps : (take_of ch part).chooser ≡ ch
  unfolding take_of
  take-keeps = refl

  -- its number
  pub take-number : (take_of ch part).answer.refusal ≡ take_refusal part
  unfolding take_of
  take-number = number_said (λ (a : Taken). a.refusal) (take_refusal part) refl refl

  -- lent 16 bytes
  module _ (sixteen : length part ≡ 16) where
    -- it answers the error
    pub take_answer : take_of ch part ≡ record { answer = record { refusal = 0; error = ch.error }; chooser = ch }
    unfolding take_of
    take_answer = rw (eq-eqb (length part) 16 sixteen)

    -- and gives the block
    pub take_block : take_into ch part ≡ ch.block
    unfolding take_into
    take_block = rw (eq-eqb (length part) 16 sixteen)

    -- so what is held is what the chooser keeps
    pub held_kept : held ch part ≡ best ch
    unfolding held
    held_kept = rw (take_block, take_answer)

  -- lent any other number
  module _ (other : length part ≡ 16 → ⊥) where
    -- it declines
    pub take_declined : take_of ch part ≡ record { answer = record { refusal = 2; error = 0 }; chooser = ch }
    unfolding take_of
    take_declined = rw (ne_eqb (length part) 16 other)

    -- and leaves the part as it was
    pub take_leaves : take_into ch part ≡ part
    unfolding take_into
    take_leaves = rw (ne_eqb (length part) 16 other)
