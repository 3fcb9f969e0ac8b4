-- What baking promises: demand 3 over the built-in proposals, and the same error when the block is measured.
use Prim.Native.Nat.{ℕ, ◌+◌, ◌*◌, ◌<◌}
use native.Mathlib.Omega.{arith}
use mathlib.Core.Path.{◌≡◌, refl, ap, ◌∙◌}
use mathlib.Core.List.{List, [], Memᴰ}
use lib.ListN.{length, replicate, drop}
use lib.Seq.{get_or-take, get_or-drop}
use Rattle.lists.specs.Bytes.{Bytes}
use Rattle.lists.proofs.Rows.{get_or-each}
use Rattle.lists.proofs.Parts.{part_length, joined_at}
use Rattle.bptc_block.specs.declared.Candidate.{Candidate}
use Rattle.bptc_block.specs.MeasureCall.{measure_of}
use Rattle.bptc_block.proofs.FinishCall.{finish-declines}
use Rattle.bptc_block.proofs.Promise.{measure_finished}
use Rattle.chooser.specs.StartCall.{start_of}
use Rattle.chooser.specs.Calls.{accepted}
use Rattle.chooser.specs.Demand3.{Promise}
use Rattle.chooser.proofs.Calls.{started_own}
use Rattle.chooser.proofs.Demand3.{demand3}
use Rattle.proposals.specs.Offers.{offers}
use Rattle.proposals.specs.BuiltIn.{proposals_of}
use Rattle.proposals.specs.Baking.{baked, group_at, baked_blocks, baked_errors, BakedRight, BakedRow}
use Rattle.proposals.proofs.Accepting.{Sound, proposals_sound, proposals_length, accepted-all}
use Rattle.proposals.proofs.Groups.{baked-length}

module _ (px : List ℕ) (own : length px ≡ 48) (bytes : Bytes px) where
  -- every built-in proposal is accepted
  all-accepted : accepted (start_of px).chooser (offers (proposals_of px)) ≡ proposals_of px
  all-accepted = accepted-all (proposals_of px) (start_of px).chooser (proposals_sound px bytes)

  -- demand 3 over them
  promise : Promise px (proposals_of px) (baked px)
  unfolding baked
  promise =
      let some : proposals_of px ≡ [] → ⊥ = λ none. omega (arith, ap length none, proposals_length px) in
      rw (started_own px own)
      (rw all-accepted at
      ((demand3 px (offers (proposals_of px)) (replicate 16 0) bytes
      (rw all-accepted (λ c m. (proposals_sound px bytes c m).four)) (rw all-accepted some) refl).0 own))

  -- the block is a finished one
  measured : measure_of (baked px).block px ≡ record { refusal = 0; error = (baked px).error }
  measured =
      let w : Candidate = promise.winner in
      let among : Memᴰ w (proposals_of px) =
      rw promise.earliest.whole (mathlib.Core.List.Memᴰ.append_right promise.earliest.before (mathlib.Core.List.Memᴰ.head refl)) in
      let sound : Sound w = proposals_sound px bytes w among in
      rw (promise.block, promise.error)
      (measure_finished px w (replicate 16 0) sound.four (finish-declines px w (replicate 16 0) own refl ∙ sound.passes))

-- for every 48 bytes
pub baked_right : BakedRight
baked_right px own bytes = record { promise = promise px own bytes; measured = measured px own bytes }

-- the pixels of a group of a row
module _ (groups : List ℕ) (n k : ℕ) (whole : length groups ≡ 48 * n) (h : k < n) where
  -- are 48
  group_own : length (group_at groups k) ≡ 48
  group_own = part_length 48 groups n (omega arith) k h

  -- and bytes where the row's are
  group_bytes : Bytes groups → Bytes (group_at groups k)
  group_bytes bytes i l =
      let inside : i < 48 = omega (arith, group_own) in
      rw (get_or-take 48 (drop (k * 48) groups) i 0 inside, get_or-drop (k * 48) groups i 0) (bytes (k * 48 + i) (omega arith))

-- and for each group of a row
pub baked-row : BakedRow
unfolding baked_blocks baked_errors
baked-row groups n k whole bytes h =
    rw (
      joined_at 16 (λ (k : ℕ). (baked (group_at groups k)).block) n k (λ k h. baked-length (group_at groups k)) h,
      get_or-each 0 (λ (k : ℕ). (baked (group_at groups k)).error) n k h,
    )
    (baked_right (group_at groups k) (group_own groups n k whole h) (group_bytes groups n k whole h bytes))
