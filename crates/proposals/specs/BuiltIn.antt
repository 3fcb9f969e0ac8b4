-- The built-in proposals: for each partition, in each mode, the corners of the box around each subset's colours.
use Rattle.std.specs.Prelude.{ℕ, ◌/◌, List, [], ◌∷◌, eqb}
use Rattle.lists.specs.Parts.{joined}
use Rattle.lists.specs.Tests.{pick}
use Rattle.bptc.specs.declared.Rgb.{Rgb}
use Rattle.bptc.specs.Internal.Colour.{each}
use Rattle.bptc_block.specs.declared.Candidate.{Candidate}
use Rattle.bptc_block.specs.declared.PBits.TheVariants.{Free}
use Rattle.corners.specs.declared.Bounds.{Bounds}
use Rattle.corners.specs.Corners.{corners_of}

-- how many shown levels of a channel one stored level stands for: a stored channel has 6 bits in mode 1 and 7 in mode 3
abbrev pub quantization_step : ℕ → ℕ
quantization_step mode = pick (eqb mode 1) 4 2

-- a colour as a mode stores it
abbrev pub stored_in : ℕ → Rgb → Rgb
stored_in mode c = each (λ (x : ℕ). x / quantization_step mode) c

-- the proposal between the corners of the two subsets' boxes, with its p-bits free
unfoldable pub between_corners : ℕ → ℕ → Bounds → Bounds → Candidate
between_corners mode partition first second =
    record {
      mode = mode;
      partition = partition;
      ends =
          stored_in mode first.low
          ∷ (stored_in mode first.high ∷ (stored_in mode second.low ∷ (stored_in mode second.high ∷ [])));
      p = Free;
    }

-- a mode's proposal for a partition
abbrev pub proposal_of : List ℕ → ℕ → ℕ → Candidate
proposal_of px mode partition = between_corners mode partition (corners_of px partition 0) (corners_of px partition 1)

-- a partition's proposals, mode 1 and then mode 3
abbrev pub both_of : List ℕ → ℕ → List Candidate
both_of px partition = proposal_of px 1 partition ∷ (proposal_of px 3 partition ∷ [])

-- those of the first n partitions
abbrev pub proposals_to : List ℕ → ℕ → List Candidate
proposals_to px n = joined (both_of px) n

-- those of all partitions
unfoldable pub proposals_of : List ℕ → List Candidate
proposals_of px = proposals_to px 64
