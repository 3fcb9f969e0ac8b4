-- A chooser in its part is read again as it was written, and a declined offer changes no byte of it.
use Prim.Native.Nat.{ℕ, ◌^◌, ◌<◌}
use native.Mathlib.Nat.{lt_trans}
use native.Mathlib.Omega.{arith}
use mathlib.Core.Path.{◌≡◌, refl, ◌∙◌}
use mathlib.Core.Bool.{Bool, true, false}
use mathlib.Core.List.{List}
use lib.Dec.{eqb, leb, lit<}
use lib.ListN.{length, drop, length-take, length-drop}
use borrow.Author.Tests.{eq-eqb, eqb-true, leb-false}
use Rattle.lists.specs.Bytes.{Bytes}
use Rattle.lists.specs.Tests.{pick}
use Rattle.lists.proofs.Tests.{pick_elim}
use Rattle.lists.proofs.Bytes.{number_lt}
use Rattle.bptc_block.specs.declared.Candidate.{Candidate}
use Rattle.bptc_block.specs.Compressed.{Compressed}
use Rattle.chooser.specs.declared.Chooser.{Chooser}
use Rattle.chooser.specs.Answers.{Offered}
use Rattle.chooser.specs.OfferCall.{offer_refusal, finish_gives, offer_of}
use Rattle.chooser.proofs.Calls.{start_answer, started_length, offer_cases, offer-number, offer_declined, gives_keeps}
use Rattle.bc7_c.specs.Parts.{chooser_bytes, chooser_in}
use Rattle.bc7_c.specs.Calls.{start_part, offer_answer, offer_part}
use Rattle.bc7_c.specs.Held.{StartHeld, OfferHeld, DeclinedLeaves}
use Rattle.bc7_c.proofs.PartBytes.{error-four, error-bytes, bytes_in, in_bytes}

-- a chooser that has room in a part
record Fitting (ch : Chooser) : Type 0 where
  pub pixels : length ch.pixels ≡ 48
  pub block : length ch.block ≡ 16
  pub error : ch.error < 2 ^ 32

-- such a chooser is read again
again : (ch : Chooser) → Fitting ch → chooser_in (chooser_bytes ch) ≡ ch
again ch f = in_bytes ch f.pixels f.block f.error

-- a start hands one back
pub start-held : StartHeld
unfolding start_part
start-held px part whole =
    rw (eq-eqb (length part) 68 whole, start_answer px)
    (again _ (record { pixels = started_length px; block = refl; error = lit< tt }))

-- that of a part is one
module _ (part : List ℕ) (whole : length part ≡ 68) (bytes : Bytes part) where
  found : Fitting (chooser_in part)
  unfolding chooser_in
  found =
      record {
        pixels = simp length-take (omega arith);
        block = simp (length-take, length-drop) (omega arith);
        error = rw (error-four part whole) at (number_lt (drop 64 part) (error-bytes part whole bytes));
      }

  -- and an offer to it hands one back
  handed : (c : Candidate) → length c.ends ≡ 4 → Fitting (offer_of (chooser_in part) c).chooser
  handed c four =
      offer_cases (chooser_in part) c (λ (o : Offered). Fitting o.chooser)
      (λ ok. pick_elim (λ (k : Compressed). Fitting (record { pixels = (chooser_in part).pixels; block = k.block; error = k.error })) (leb (chooser_in part).error (finish_gives (chooser_in part).pixels c).error) (λ t. found)
      (λ t.
      record {
        pixels = found.pixels;
        block = (gives_keeps (chooser_in part).pixels c found.pixels four ok).allowed.sixteen;
        error = lt_trans (leb-false _ _ t) found.error;
      }))
      (λ t. found)

-- it is read again
pub offer-held : OfferHeld
unfolding offer_part
offer-held part c whole bytes four = rw (eq-eqb (length part) 68 whole) (again _ (handed part whole bytes c four))

-- a declined offer changes no byte
pub declined_leaves : DeclinedLeaves
unfolding offer_answer offer_part
declined_leaves part c bytes ne = go (eqb (length part) 68) refl ne
  where
    go : (t : Bool) → eqb (length part) 68 ≡ t → (pick t (offer_of (chooser_in part) c).refusal 255 ≡ 0 → ⊥) →
        pick t (chooser_bytes (offer_of (chooser_in part) c).chooser) part ≡ part
    go true e some =
        let declined : offer_refusal c ≡ 0 → ⊥ = λ z. some (offer-number (chooser_in part) c ∙ z) in
        rw (offer_declined (chooser_in part) c declined) (bytes_in part (eqb-true _ _ e) bytes)
    go false e some = refl
