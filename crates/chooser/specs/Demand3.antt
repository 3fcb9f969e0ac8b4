-- Demand 3: one statement about a start and every list of offers and takes after it, declined ones included.
use Rattle.std.specs.Prelude.{ℕ, ◌≤◌, ◌≡◌, length, replicate}
use mathlib.Core.List.{List, [], Memᴰ}
use Rattle.lists.specs.Bytes.{Bytes}
use Rattle.lists.specs.Least.{Earliest}
use Rattle.bptc_block.specs.declared.Candidate.{Candidate}
use Rattle.bptc_block.specs.RgbaCandidate.{rgba_candidate}
use Rattle.bptc_block.specs.Chapter.{distance}
use Rattle.bptc_block.specs.FinishCall.{finish_of, finish_into}
use Rattle.bptc_block.specs.Compressed.{Compressed}
use Rattle.bptc_block.specs.Allowed.{Allowed}
use Rattle.chooser.specs.declared.Chooser.{Chooser}
use Rattle.chooser.specs.StartCall.{start_of}
use Rattle.chooser.specs.Calls.{Call, after, accepted, held}

-- what holds of the held block and error, over pixels, where these candidates were accepted
pub record Promise (px : List ℕ) (cs : List Candidate) (h : Compressed) : Type 0 where
  -- the error is exactly the block's distance, as the chapter reads it
  pub exact : h.error ≡ distance px h.block
  -- block and error are what the call `finish`, lent a part of 16 bytes, gives for the earliest accepted candidate of least error
  pub winner : Candidate
  pub earliest : Earliest (λ (c : Candidate). (finish_of px c (replicate 16 0)).error) cs winner
  pub block : h.block ≡ finish_into px winner (replicate 16 0)
  pub error : h.error ≡ (finish_of px winner (replicate 16 0)).error
  -- no block that an accepted candidate could have become lies closer
  pub closest : (c : Candidate) → Memᴰ c cs → (block : List ℕ) → Allowed (rgba_candidate c) block → h.error ≤ distance px block
  -- and the held block is one that the winner could have become
  pub allowed : Allowed (rgba_candidate winner) h.block

-- some offer of the list was accepted
abbrev pub SomeAccepted : List Candidate → Type 0
SomeAccepted cs = cs ≡ [] → ⊥

-- candidates with four endpoints, as their type has them
abbrev pub FourEnds : List Candidate → Type 0
FourEnds cs = (c : Candidate) → Memᴰ c cs → length c.ends ≡ 4

-- For every start, over any number of bytes, and every list of calls in which an offer was accepted.
-- Held is what a take gives after the list, whatever 16 bytes it is lent. The pixels are those handed to the start where they are
-- 48 bytes, and 48 zeros elsewhere.
abbrev pub Demand3 : Type 0
Demand3 =
    (px : List ℕ) (calls : List Call) (part : List ℕ) →
    let ch : Chooser = (start_of px).chooser in
    Bytes px → FourEnds (accepted ch calls) → SomeAccepted (accepted ch calls) → length part ≡ 16 →
    (length px ≡ 48 → Promise px (accepted ch calls) (held (after ch calls) part))
    × ((length px ≡ 48 → ⊥) → Promise (replicate 48 0) (accepted ch calls) (held (after ch calls) part))

-- Before any accepted offer the block held is sixteen zeros, and its error the largest number of 32 bits: Compressed::invalid.
abbrev pub BeforeAny : Type 0
BeforeAny =
    (px : List ℕ) (calls : List Call) (part : List ℕ) →
    let ch : Chooser = (start_of px).chooser in
    accepted ch calls ≡ [] → length part ≡ 16 → held (after ch calls) part ≡ record { block = replicate 16 0; error = 4294967295 }
