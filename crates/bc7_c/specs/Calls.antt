-- The calls of C: the answer of each, and what its parts hold afterwards where the wrapped call's definition does not say it.
-- A chooser part or a field part of another length is answered by 255.
use Rattle.std.specs.Prelude.{ℕ, List, eqb, length}
use Rattle.lists.specs.Tests.{pick}
use Rattle.bptc_block.specs.declared.Candidate.{Candidate}
use Rattle.bptc_block.specs.FinishCall.{finish_of}
use Rattle.bptc_block.specs.ReadCall.{read_of, read_into}
use Rattle.bptc_block.specs.MeasureCall.{measure_of}
use Rattle.chooser.specs.StartCall.{start_of}
use Rattle.chooser.specs.OfferCall.{offer_of}
use Rattle.chooser.specs.TakeCall.{take_of, take_into}
use Rattle.bc7_c.specs.Numbers.{answered}
use Rattle.bc7_c.specs.Parts.{chooser_bytes, chooser_in, field_bytes}

-- finish: the refusal and the error
unfoldable pub finish_answer : List ℕ → Candidate → List ℕ → ℕ
finish_answer px c block = answered (finish_of px c block).refusal (finish_of px c block).error

-- measure: the refusal and the error
unfoldable pub measure_answer : List ℕ → List ℕ → ℕ
measure_answer block px = answered (measure_of block px).refusal (measure_of block px).error

-- the first where a part has so many bytes, and else the second
abbrev pub of_length {ℓ} : {A : Type ℓ} → ℕ → List ℕ → A → A → A
of_length k part a b = pick (eqb (length part) k) a b

-- start: the refusal
unfoldable pub start_answer : List ℕ → List ℕ → ℕ
start_answer px part = of_length 68 part (start_of px).refusal 255

-- the chooser part afterwards
unfoldable pub start_part : List ℕ → List ℕ → List ℕ
start_part px part = of_length 68 part (chooser_bytes (start_of px).chooser) part

-- offer: the refusal
unfoldable pub offer_answer : List ℕ → Candidate → ℕ
offer_answer part c = of_length 68 part (offer_of (chooser_in part) c).refusal 255

-- the chooser part afterwards
unfoldable pub offer_part : List ℕ → Candidate → List ℕ
offer_part part c = of_length 68 part (chooser_bytes (offer_of (chooser_in part) c).chooser) part

-- take: the refusal and the error
unfoldable pub take_answer : List ℕ → List ℕ → ℕ
take_answer part block =
    of_length 68 part (answered (take_of (chooser_in part) block).answer.refusal (take_of (chooser_in part) block).answer.error) (answered 255 0)

-- the block part afterwards
unfoldable pub take_block : List ℕ → List ℕ → List ℕ
take_block part block = of_length 68 part (take_into (chooser_in part) block) block

-- read: the refusal
unfoldable pub read_answer : List ℕ → List ℕ → List ℕ → ℕ
read_answer block px fields = of_length 31 fields (read_of block px).refusal 255

-- the pixel part afterwards
unfoldable pub read_pixels : List ℕ → List ℕ → List ℕ → List ℕ
read_pixels block px fields = of_length 31 fields (read_into block px) px

-- the field part afterwards: the fields read, and as it was after a refusal
unfoldable pub read_fields : List ℕ → List ℕ → List ℕ → List ℕ
read_fields block px fields = pick (eqb (read_answer block px fields) 0) (field_bytes (read_of block px)) fields
