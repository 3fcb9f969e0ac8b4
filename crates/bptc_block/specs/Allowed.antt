-- The blocks that a candidate could have become.
use Rattle.std.specs.Prelude.{ℕ, ◌<◌, ◌≡◌, ◌⊎◌, List, length}
use Rattle.lists.specs.Bytes.{Bytes}
use Rattle.bptc_block.specs.Fields.{BlockFields}
use Rattle.bptc_block.specs.declared.PBits.{PBits}
use Rattle.bptc_block.specs.declared.PBits.TheVariants.{Free, Fixed}
use Rattle.bptc_block.specs.RgbaCandidate.{RgbaCandidate}
use Rattle.bptc.specs.Mode.{Mode, mode_numbered}
use Rattle.bptc.specs.Colour.{Rgba, stored}
use Rattle.bptc.specs.Shown.{own, own_bit}
use Rattle.bptc.specs.Palette.{end_of}
use Rattle.bptc_block.specs.Packed.{mode_of, fields_of}

-- endpoint h of subset s of the block is endpoint j of that subset of the candidate, with j's own p-bit where these are fixed
abbrev pub SameEnd : Mode → BlockFields → List Rgba → PBits → ℕ → ℕ → ℕ → Type 0
SameEnd m f ends Free s h j = stored m (end_of f.ends s h) ≡ stored m (end_of ends s j)
SameEnd m f ends (Fixed p) s h j =
    (stored m (end_of f.ends s h) ≡ stored m (end_of ends s j))
    × (own_bit m.own_bits (own m f.p s) h ≡ own_bit m.own_bits (own m p s) j)

-- subset s of the block has the candidate's two endpoints, in either order
abbrev pub SameSubset : Mode → BlockFields → List Rgba → PBits → ℕ → Type 0
SameSubset m f ends ps s =
    (SameEnd m f ends ps s 0 0 × SameEnd m f ends ps s 1 1) ⊎ (SameEnd m f ends ps s 0 1 × SameEnd m f ends ps s 1 0)

-- a block of the candidate's mode, partition and endpoints, with its p-bits where these are fixed and with any indices
pub record Allowed (c : RgbaCandidate) (block : List ℕ) : Type 0 where
  pub sixteen : length block ≡ 16
  pub bytes : Bytes block
  pub mode : mode_of block ≡ c.mode
  pub partition : (fields_of (mode_numbered c.mode) block).partition ≡ c.partition
  pub subsets : (s : ℕ) → s < (mode_numbered c.mode).subsets → SameSubset (mode_numbered c.mode) (fields_of (mode_numbered c.mode) block) c.ends c.p s
