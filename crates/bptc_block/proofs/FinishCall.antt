-- Laws of the call `finish`: when it declines, what it leaves, and what it gives.
use Prim.Native.Nat.{ℕ}
use mathlib.Core.Path.{◌≡◌, refl, sym, ◌∙◌, subst}
use mathlib.Core.Bool.{true}
use mathlib.Core.List.{List}
use lib.Dec.{eqb}
use lib.ListN.{length}
use borrow.Author.Tests.{eqb-true, eq-eqb, ne_eqb}
use Rattle.bptc.proofs.Colours.{without-length}
use Rattle.bptc_block.specs.declared.Candidate.{Candidate}
use Rattle.bptc_block.specs.RgbaCandidate.{rgba_candidate}
use Rattle.bptc_block.specs.Answers.{Finished}
use Rattle.bptc_block.specs.Finish.{finish}
use Rattle.bptc_block.specs.Refusal.{is_mode, check_block, check_rgba, check_candidate}
use Rattle.bptc_block.specs.Checks.{NotDeclined, PixelsChecked, BlockChecked, CandidateChecked}
use Rattle.bptc_block.specs.FinishCall.{finish_refusal, finish_of, finish_into}
use Rattle.bptc_block.proofs.Refusals.{Known, one_or_three, number_said, passed, good}
use Rattle.bptc_block.proofs.Finishing.{Good}
use Rattle.bptc_block.proofs.Checks.{pixels-checked, block-checked, candidate-checked}

module _ (px : List ℕ) (c : Candidate) (block : List ℕ) where
  -- the number in the answer
  pub finish-number : (finish_of px c block).refusal ≡ finish_refusal px c block
  unfolding finish_of
  finish-number = number_said (λ (a : Finished). a.refusal) (finish_refusal px c block) refl refl

  -- by checks 1 to 6
  pub finish-checked : PixelsChecked px (BlockChecked block (CandidateChecked c NotDeclined)) (finish_of px c block).refusal
  unfolding finish_refusal
  finish-checked =
      subst (PixelsChecked px (BlockChecked block (CandidateChecked c NotDeclined))) (sym finish-number)
      (pixels-checked _ _ px (block-checked _ _ block (candidate-checked NotDeclined 0 c (λ known. refl))))

  -- over parts of the right lengths the candidate alone decides
  pub finish-declines : length px ≡ 48 → length block ≡ 16 → (finish_of px c block).refusal ≡ check_candidate c 0
  unfolding finish_refusal
  finish-declines p b = finish-number ∙ rw (eq-eqb (length px) 48 p, eq-eqb (length block) 16 b)

  -- the answer of a declined call
  pub finish-declined : (finish_refusal px c block ≡ 0 → ⊥) → finish_of px c block ≡ record { refusal = finish_refusal px c block; error = 0 }
  unfolding finish_of
  finish-declined ne = rw (ne_eqb (finish_refusal px c block) 0 ne)

  -- a declined call leaves the part as it was
  pub finish_leaves : (finish_refusal px c block ≡ 0 → ⊥) → finish_into px c block ≡ block
  unfolding finish_into
  finish_leaves ne = rw (ne_eqb (finish_refusal px c block) 0 ne)

  module _ (ok : (finish_of px c block).refusal ≡ 0) where
    no_refusal : finish_refusal px c block ≡ 0
    no_refusal = sym finish-number ∙ ok

    -- the answer of a call that is not declined
    pub finish-answer : finish_of px c block ≡ record { refusal = 0; error = (finish px c).error }
    unfolding finish_of
    finish-answer = rw no_refusal

    -- and the part after it
    pub finish-block : finish_into px c block ≡ (finish px c).block
    unfolding finish_into
    finish-block = rw no_refusal

    after-pixels : (eqb (length px) 48 ≡ true) × (check_block (length block) (check_candidate c 0) ≡ 0)
    unfolding finish_refusal
    after-pixels = passed (eqb (length px) 48) 0 _ no_refusal

    -- there are 48 bytes of pixels
    pub finish-pixels : length px ≡ 48
    finish-pixels = eqb-true _ _ after-pixels.0

    -- the checks of the candidate decline nothing
    pub finish-accepted : check_candidate c 0 ≡ 0
    finish-accepted = (passed (eqb (length block) 16) 1 _ after-pixels.1).1

    -- its mode is one of the two
    pub finish_known : Known c.mode
    unfolding check_rgba
    finish_known = one_or_three c.mode (passed (is_mode c.mode) 2 _ finish-accepted).0

    -- what such a candidate is
    pub finish_good : length c.ends ≡ 4 → Good (rgba_candidate c)
    finish_good four = (good (rgba_candidate c) 0 (without-length c.ends ∙ four) finish-accepted).0
