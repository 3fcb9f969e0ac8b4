-- Every built-in proposal is accepted.
use Prim.Native.Nat.{ℕ, zero, suc, ◌/◌, ◌^◌, ◌<◌, ◌≤◌}
use native.Mathlib.Omega.{arith}
use mathlib.Core.Path.{◌≡◌, refl, ap}
use mathlib.Core.Logic.{inl, inr}
use mathlib.Core.List.Memᴰ
use mathlib.Core.List.{List, [], ◌∷◌, Memᴰ}
use lib.ListN.{length, get_or}
use Rattle.lists.specs.Parts.{joined}
use Rattle.lists.specs.Bytes.{Bytes}
use Rattle.lists.proofs.Parts.{joined_length}
use Rattle.bptc.specs.declared.Rgb.{Rgb}
use Rattle.bptc.specs.Mode.{mode_numbered}
use Rattle.bptc.specs.Colour.{without_alpha}
use Rattle.bptc.specs.Internal.Colour.{black, Below}
use Rattle.bptc_block.specs.declared.Candidate.{Candidate}
use Rattle.bptc.proofs.Modes.{is_mode}
use Rattle.bptc_block.specs.RgbaCandidate as P
use Rattle.bptc_block.proofs.Refusals.{Known, own-number, checked}
use Rattle.bptc_block.proofs.Stored.{rgb_stored}
use Rattle.chooser.specs.declared.Chooser.{Chooser}
use Rattle.chooser.specs.OfferCall.{offer_refusal, offer_of}
use Rattle.chooser.specs.Calls.{accepted}
use Rattle.chooser.proofs.Calls.{offer-number}
use Rattle.corners.specs.declared.Bounds.{Bounds}
use Rattle.proposals.specs.Offers.{offers}
use Rattle.corners.specs.Corners.{corners_of}
use Rattle.proposals.specs.BuiltIn.{quantization_step, stored_in, between_corners, proposal_of, both_of, proposals_to, proposals_of}
use Rattle.corners.proofs.Boxing.{ShownBounds, corners_shown}

-- a candidate that is accepted, with four endpoints as its type has them
pub record Sound (c : Candidate) : Type 0 where
  pub four : length c.ends ≡ 4
  pub passes : offer_refusal c ≡ 0

-- a byte divided has as many bits as a mode stores
stored_small : (mode x : ℕ) → Known mode → x < 256 → x / quantization_step mode < 2 ^ (mode_numbered mode).channel_bits
unfolding mode_numbered
stored_small mode x (inl e) h = rw e (omega arith)
stored_small mode x (inr e) h = rw e (omega arith)

-- so has each channel
stored_below : (mode : ℕ) (c : Rgb) → Known mode → Below 256 c → Below (2 ^ (mode_numbered mode).channel_bits) (stored_in mode c)
stored_below mode c known h =
    record {
      r = stored_small mode c.r known h.r;
      g = stored_small mode c.g known h.g;
      b = stored_small mode c.b known h.b;
    }

-- a proposal between corners of bytes
between_sound : (mode partition : ℕ) (k l : Bounds) → Known mode → partition < 64 → ShownBounds k → ShownBounds l →
    Sound (between_corners mode partition k l)
unfolding between_corners without_alpha mode_numbered
between_sound mode partition k l known h sk sl =
    record {
      four = refl;
      passes =
          checked (P.rgba_candidate (between_corners mode partition k l)) 0
          (record {
            mode = own-number mode known;
            partition = few mode known;
            room = refl;
            stored = rgb_stored (mode_numbered mode) (is_mode mode) (between_corners mode partition k l).ends ends;
            p = tt;
          });
    }
  where
    few : (mode : ℕ) → Known mode → partition < 2 ^ (mode_numbered mode).partition_bits
    few mode (inl e) = rw e h
    few mode (inr e) = rw e h

    ends : (i : ℕ) → i < 4 → Below (2 ^ (mode_numbered mode).channel_bits) (get_or (between_corners mode partition k l).ends i black)
    ends zero h = stored_below mode k.low known sk.low
    ends (suc zero) h = stored_below mode k.high known sk.high
    ends (suc (suc zero)) h = stored_below mode l.low known sl.low
    ends (suc (suc (suc zero))) h = stored_below mode l.high known sl.high
    ends (suc (suc (suc (suc i)))) h = absurd (omega arith)

module _ (px : List ℕ) (bytes : Bytes px) where
  -- a mode's proposal for a partition
  proposal_sound : (mode partition : ℕ) → Known mode → partition < 64 → Sound (proposal_of px mode partition)
  proposal_sound mode partition known h =
      between_sound mode partition (corners_of px partition 0) (corners_of px partition 1) known h
      (corners_shown px partition 0 bytes) (corners_shown px partition 1 bytes)

  -- each of the first partitions'
  proposals_to_lem : (n : ℕ) → n ≤ 64 → (c : Candidate) → Memᴰ c (proposals_to px n) → Sound c
  unfolding joined
  proposals_to_lem zero h c m = absurd (Memᴰ.not-nil m)
  proposals_to_lem (suc n) h c m =
      elim (Memᴰ.append_cases (proposals_to px n) m) [
        | inl before ↦ proposals_to_lem n (omega arith) c before
        | inr last ↦ elim (Memᴰ.cases_cons last) [
          | inl e ↦ rw e (proposal_sound 1 n (inl refl) (omega arith))
          | inr m ↦ elim (Memᴰ.cases_cons m) [
            | inl e ↦ rw e (proposal_sound 3 n (inr refl) (omega arith))
            | inr m ↦ absurd (Memᴰ.not-nil m)
          ]
        ]
      ]

  -- each of all partitions'
  pub proposals_sound : (c : Candidate) → Memᴰ c (proposals_of px) → Sound c
  unfolding proposals_of
  proposals_sound = proposals_to_lem 64 (omega arith)

-- offers that are all accepted
pub accepted-all : (cs : List Candidate) (ch : Chooser) → ((c : Candidate) → Memᴰ c cs → Sound c) →
    accepted ch (offers cs) ≡ cs
unfolding accepted
accepted-all [] ch h = refl
accepted-all (c ∷ cs) ch h =
    rw (offer-number ch c, (h c (Memᴰ.head refl)).passes)
    (ap {B = List Candidate} (λ l. c ∷ l) (accepted-all cs (offer_of ch c).chooser (λ d m. h d (Memᴰ.tail m))))

-- two for each partition, 128 in all
pub proposals_length : (px : List ℕ) → length (proposals_of px) ≡ 128
unfolding proposals_of
proposals_length px = joined_length 2 (both_of px) 64 (λ k h. refl)
