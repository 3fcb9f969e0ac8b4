-- Demand 1, by the laws of each call.
use mathlib.Core.Path.{◌≡◌, refl, sym, ap, ◌∙◌, subst}
use lib.ListN.{length}
use borrow.Author.Tests.{eq-eqb}
use Rattle.bptc_block.specs.Answers.{Finished, Measured, unread}
use Rattle.bptc_block.specs.Checks.{NotDeclined, PixelsChecked, BlockChecked, CandidateChecked, ReadableChecked}
use Rattle.bptc_block.specs.FinishCall.{finish_refusal}
use Rattle.bptc_block.proofs.Checks.{pixels-checked, block-checked, candidate-checked}
use Rattle.bptc_block.proofs.PackCall.{pack-checked, pack_leaves}
use Rattle.bptc_block.proofs.ReadCall.{read_number, read-checked, read-declined, read_leaves, measure-number, measure-declined}
use Rattle.bptc_block.proofs.FinishCall.{finish-number, finish-checked, finish-declined, finish_leaves}
use Rattle.chooser.specs.Answers.{Offered, TakeAnswer}
use Rattle.chooser.specs.Demand1.{Demand1}
use Rattle.chooser.proofs.Calls.{start_answer, started_own, started_black, offer-number, offer_declined, take-number, take_answer, take_declined, take_leaves, take-keeps}

pub demand1 : Demand1
demand1 =
    record {
      pack = λ mode f block. record { checked = pack-checked mode f block; left = pack_leaves mode f block };
      finish = λ px c block.
          record {
            checked = finish-checked px c block;
            left = λ ne.
                let some : finish_refusal px c block ≡ 0 → ⊥ = λ e. ne (finish-number px c block ∙ e) in
                (ap (λ (a : Finished). a.error) (finish-declined px c block some), finish_leaves px c block some);
          };
      start = λ px.
          record {
            checked = rw (start_answer px) (pixels-checked NotDeclined 0 px refl);
            left = λ ne. rw (start_answer px, started_black px (λ e. ne (rw (start_answer px, eq-eqb (length px) 48 e))));
          };
      offer = λ ch c.
          record {
            checked = subst (CandidateChecked c NotDeclined) (sym (offer-number ch c)) (candidate-checked NotDeclined 0 c (λ known. refl));
            left = λ ne. ap (λ (o : Offered). o.chooser) (offer_declined ch c (λ e. ne (offer-number ch c ∙ e)));
          };
      take = λ ch block.
          record {
            checked = subst (BlockChecked block NotDeclined) (sym (take-number ch block)) (block-checked NotDeclined 0 block refl);
            left = λ ne.
                let other : length block ≡ 16 → ⊥ = λ e. ne (ap (λ (t : TakeAnswer). t.answer.refusal) (take_answer ch block e)) in
                (ap (λ (t : TakeAnswer). t.answer.error) (take_declined ch block other), take_leaves ch block other);
          };
      read = λ block px.
          record {
            checked = subst (PixelsChecked px (BlockChecked block (ReadableChecked block NotDeclined))) (sym (read_number block px)) (read-checked block px);
            left = λ ne. (read-declined block px (λ e. ne (read_number block px ∙ e)) ∙ ap unread (sym (read_number block px)), read_leaves block px ne);
          };
      measure = λ block px.
          record {
            checked = subst (PixelsChecked px (BlockChecked block (ReadableChecked block NotDeclined))) (sym (measure-number block px)) (read-checked block px);
            left = λ ne. ap (λ (a : Measured). a.error) (measure-declined block px (λ e. ne (measure-number block px ∙ e)));
          };
      starts = λ px own. rw (start_answer px, started_own px own);
      keeps = take-keeps;
    }
