-- Baking: the best built-in proposal for each group of sixteen pixels.
use Rattle.std.specs.Prelude.{ℕ, ◌*◌, ◌<◌, ◌≡◌, List, map, length, get_or, replicate}
use Rattle.lists.specs.Bytes.{Bytes}
use Rattle.lists.specs.Rows.{up_from}
use Rattle.lists.specs.Parts.{part_at, joined}
use Rattle.bptc_block.specs.MeasureCall.{measure_of}
use Rattle.bptc_block.specs.Compressed.{Compressed}
use Rattle.chooser.specs.declared.Chooser.{Chooser}
use Rattle.chooser.specs.StartCall.{started_over, start_of}
use Rattle.chooser.specs.Calls.{after, held}
use Rattle.chooser.specs.Demand3.{Promise}
use Rattle.proposals.specs.Offers.{offers}
use Rattle.proposals.specs.BuiltIn.{proposals_of}

-- a chooser started over pixels, after the built-in proposals
abbrev pub chooser_for : List ℕ → Chooser
chooser_for px = after (start_of px).chooser (offers (proposals_of (started_over px)))

-- the block and the error that it holds
unfoldable pub baked : List ℕ → Compressed
baked px = held (chooser_for px) (replicate 16 0)

-- the pixels of group k
abbrev pub group_at : List ℕ → ℕ → List ℕ
group_at groups k = part_at 48 k groups

-- the blocks of the first n groups, one after the other
unfoldable pub baked_blocks : List ℕ → ℕ → List ℕ
baked_blocks groups n = joined (λ (k : ℕ). (baked (group_at groups k)).block) n

-- their errors
unfoldable pub baked_errors : List ℕ → ℕ → List ℕ
baked_errors groups n = map (λ (k : ℕ). (baked (group_at groups k)).error) (up_from 0 n)

-- what holds of the block and the error for a group's pixels
pub record Right (px : List ℕ) (h : Compressed) : Type 0 where
  -- demand 3's promise, with every built-in proposal accepted
  pub promise : Promise px (proposals_of px) h
  -- and `measure` gives the block the same error
  pub measured : measure_of h.block px ≡ record { refusal = 0; error = h.error }

-- for every 48 bytes
abbrev pub BakedRight : Type 0
BakedRight = (px : List ℕ) → length px ≡ 48 → Bytes px → Right px (baked px)

-- and for each group of a row, whose block and error stand at the group's place
abbrev pub BakedRow : Type 0
BakedRow =
    (groups : List ℕ) (n k : ℕ) → length groups ≡ 48 * n → Bytes groups → k < n →
    Right (group_at groups k)
    (record { block = part_at 16 k (baked_blocks groups n); error = get_or (baked_errors groups n) k 0 })
