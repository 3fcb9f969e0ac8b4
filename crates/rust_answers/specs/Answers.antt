-- What it is that a call gives the recorded answer: it declines nothing, and the block and the error are these.
use Rattle.std.specs.Prelude.{◌≡◌, ℕ, List, replicate}
use Rattle.bptc_block.specs.declared.Candidate.{Candidate}
use Rattle.bptc_block.specs.declared.Fields.{Fields}
use Rattle.bptc_block.specs.FinishCall.{finish_of, finish_into}
use Rattle.bptc_block.specs.MeasureCall.{measure_of}
use Rattle.bptc_block.specs.PackCall.{pack_of, pack_into}
use Rattle.chooser.specs.declared.Chooser.{Chooser}
use Rattle.chooser.specs.TakeCall.{take_of, take_into}

-- the part that a block is written to
abbrev pub part : List ℕ
part = replicate 16 0

-- finishing pixels with a candidate
abbrev pub Finishes : List ℕ → Candidate → List ℕ → ℕ → Type 0
Finishes px c block error = ((finish_of px c part).refusal ≡ 0) × ((finish_of px c part).error ≡ error) × (finish_into px c part ≡ block)

-- measuring a block
abbrev pub Measures : List ℕ → List ℕ → ℕ → Type 0
Measures px block error = ((measure_of block px).refusal ≡ 0) × ((measure_of block px).error ≡ error)

-- packing a candidate's fields with p-bits and indices
abbrev pub PacksRecorded : Candidate → ℕ → List ℕ → List ℕ → Type 0
PacksRecorded c p indices block =
    let f : Fields = record { partition = c.partition; ends = c.ends; p = p; indices = indices } in
    (pack_of c.mode f part ≡ 0) × (pack_into c.mode f part ≡ block)

-- taking from a chooser
abbrev pub Takes : Chooser → List ℕ → ℕ → Type 0
Takes ch block error = ((take_of ch part).answer.refusal ≡ 0) × ((take_of ch part).answer.error ≡ error) × (take_into ch part ≡ block)
