-- Demand 1: whatever a call is handed, it answers 0 or the first number of the list that applies, and after a refusal
-- the rest of its answer is zero, and the lent part and the chooser are as they were. What a call answers then stands here in numbers,
-- and not by the definitions that the calls' contracts cite.
use Rattle.std.specs.Prelude.{ℕ, ◌≡◌, List, length, replicate}
use Rattle.bptc_block.specs.declared.PBits.TheVariants.{Fixed}
use Rattle.bptc_block.specs.declared.Candidate.{Candidate}
use Rattle.bptc_block.specs.declared.Fields.{Fields}
use Rattle.bptc_block.specs.Checks.{NotDeclined, PixelsChecked, BlockChecked, CandidateChecked, IndicesChecked, ReadableChecked}
use Rattle.bptc_block.specs.PackCall.{pack_of, pack_into}
use Rattle.bptc_block.specs.ReadCall.{read_of, read_into}
use Rattle.bptc_block.specs.MeasureCall.{measure_of}
use Rattle.bptc_block.specs.FinishCall.{finish_of, finish_into}
use Rattle.chooser.specs.declared.Chooser.{Chooser}
use Rattle.chooser.specs.StartCall.{start_of}
use Rattle.chooser.specs.OfferCall.{offer_of}
use Rattle.chooser.specs.TakeCall.{take_of, take_into}

-- a call answers a number: its checks decide which, and this is left where it is not 0
pub record Answers (number : ℕ) (Checked : ℕ → Type 0) (Left : Type 0) : Type 0 where
  pub checked : Checked number
  pub left : (number ≡ 0 → ⊥) → Left

-- the seven calls
pub record Demand1 : Type 0 where
  pub pack : (mode : ℕ) (f : Fields) (block : List ℕ) →
      Answers (pack_of mode f block)
      (BlockChecked block
      (CandidateChecked (record { mode = mode; partition = f.partition; ends = f.ends; p = Fixed f.p })
      (IndicesChecked mode f.indices NotDeclined)))
      (pack_into mode f block ≡ block)
  pub finish : (px : List ℕ) (c : Candidate) (block : List ℕ) →
      Answers (finish_of px c block).refusal
      (PixelsChecked px (BlockChecked block (CandidateChecked c NotDeclined)))
      (((finish_of px c block).error ≡ 0) × (finish_into px c block ≡ block))
  pub start : (px : List ℕ) →
      Answers (start_of px).refusal
      (PixelsChecked px NotDeclined)
      ((start_of px).chooser ≡ record { pixels = replicate 48 0; block = replicate 16 0; error = 4294967295 })
  pub offer : (ch : Chooser) (c : Candidate) →
      Answers (offer_of ch c).refusal
      (CandidateChecked c NotDeclined)
      ((offer_of ch c).chooser ≡ ch)
  pub take : (ch : Chooser) (block : List ℕ) →
      Answers (take_of ch block).answer.refusal
      (BlockChecked block NotDeclined)
      (((take_of ch block).answer.error ≡ 0) × (take_into ch block ≡ block))
  pub read : (block px : List ℕ) →
      Answers (read_of block px).refusal
      (PixelsChecked px (BlockChecked block (ReadableChecked block NotDeclined)))
      ((read_of block px
      ≡ record {
        refusal = (read_of block px).refusal;
        mode = 0;
        partition = 0;
        ends = replicate 4 (record { r = 0; g = 0; b = 0 });
        p = 0;
        indices = replicate 16 0;
      })
      × (read_into block px ≡ px))
  pub measure : (block px : List ℕ) →
      Answers (measure_of block px).refusal
      (PixelsChecked px (BlockChecked block (ReadableChecked block NotDeclined)))
      ((measure_of block px).error ≡ 0)
  -- a chooser that is started over 48 bytes has accepted nothing, and its pixels are these very bytes
  pub starts : (px : List ℕ) → length px ≡ 48 → (start_of px).chooser ≡ record { pixels = px; block = replicate 16 0; error = 4294967295 }
  -- a take alters no chooser, declined or not
  pub keeps : (ch : Chooser) (block : List ℕ) → (take_of ch block).chooser ≡ ch
