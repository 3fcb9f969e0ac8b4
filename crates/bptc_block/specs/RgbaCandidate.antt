-- A candidate with colours of four channels, as the definitions have it.
use Rattle.std.specs.Prelude.{ℕ, List}
use Rattle.bptc.specs.Colour.{Rgba, without_alpha}
use Rattle.bptc_block.specs.declared.PBits.{PBits}
use Rattle.bptc_block.specs.declared.Candidate.{Candidate}

pub record RgbaCandidate : Type 0 where
  pub mode : ℕ
  pub partition : ℕ
  pub ends : List Rgba
  pub p : PBits

-- a candidate of three channels as one of four
abbrev pub rgba_candidate : Candidate → RgbaCandidate
rgba_candidate c = record { mode = c.mode; partition = c.partition; ends = without_alpha c.ends; p = c.p }
