-- The specification's ranges, once and in plain numbers: what a call that packs or finishes does not decline.
use Rattle.std.specs.Prelude.{ℕ, ◌<◌, ◌≡◌, ◌⊎◌, List, [], ◌∷◌, eqb, get_or, length}
use Rattle.lists.specs.Tests.{pick}
use Rattle.bptc.specs.Colour.{clear, channel}
use Rattle.bptc_block.specs.declared.PBits.{PBits}
use Rattle.bptc_block.specs.declared.PBits.TheVariants.{Free, Fixed}
use Rattle.bptc_block.specs.declared.Candidate.{Candidate}
use Rattle.bptc_block.specs.declared.Fields.{Fields}
use Rattle.bptc_block.specs.RgbaCandidate.{RgbaCandidate, rgba_candidate}

-- what a mode's numbers are below: the partitions, the endpoints and the channels that it looks at, a channel, the p-bits, an index
pub record Limits : Type 0 where
  pub mode : ℕ
  pub partitions : ℕ
  pub ends : ℕ
  pub channels : ℕ
  pub channel : ℕ
  pub bits : ℕ
  pub index : ℕ

-- the table of ranges
abbrev pub limits : List Limits
limits =
    record { mode = 1; partitions = 64; ends = 4; channels = 3; channel = 64; bits = 4; index = 8 }
    ∷ record { mode = 3; partitions = 64; ends = 4; channels = 3; channel = 128; bits = 16; index = 4 }
    ∷ []

-- the row of a mode; all limits are 0 where it has none
abbrev pub limits_for : ℕ → List Limits → Limits
limits_for n [] = record { mode = 0; partitions = 0; ends = 0; channels = 0; channel = 0; bits = 0; index = 0 }
limits_for n (r ∷ rs) = pick (eqb n r.mode) r (limits_for n rs)

-- p-bits that are free, or fixed below a limit
abbrev pub BitsWithin : ℕ → PBits → Type 0
BitsWithin bits Free = Unit {0}
BitsWithin bits (Fixed p) = p < bits

-- a candidate in the range of a row, with places for four endpoints
pub record RgbaWithin (row : Limits) (c : RgbaCandidate) : Type 0 where
  pub partition : c.partition < row.partitions
  pub room : length c.ends ≡ 4
  pub channels : (k : ℕ) → k < row.ends → (j : ℕ) → j < row.channels → channel j (get_or c.ends k clear) < row.channel
  pub p : BitsWithin row.bits c.p

-- sixteen indices in the range of a row
abbrev pub IndicesWithin : Limits → List ℕ → Type 0
IndicesWithin row is = (length is ≡ 16) × ((i : ℕ) → i < 16 → get_or is i 0 < row.index)

-- what is in range for `finish`
abbrev pub CandidateInRange : Candidate → Type 0
CandidateInRange c = ((c.mode ≡ 1) ⊎ (c.mode ≡ 3)) × RgbaWithin (limits_for c.mode limits) (rgba_candidate c)

-- what is in range for `pack`
abbrev pub InRange : ℕ → Fields → Type 0
InRange mode f =
    CandidateInRange (record { mode = mode; partition = f.partition; ends = f.ends; p = Fixed f.p }) × IndicesWithin (limits_for mode limits) f.indices
