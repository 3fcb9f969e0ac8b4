-- The call `finish`: its answer, and what the lent block part holds afterwards.
use Rattle.std.specs.Prelude.{ℕ, List, eqb, length}
use Rattle.lists.specs.Tests.{pick}
use Rattle.bptc_block.specs.declared.Candidate.{Candidate}
use Rattle.bptc_block.specs.Answers.{Finished}
use Rattle.bptc_block.specs.Finish.{finish}
use Rattle.bptc_block.specs.Refusal.{check_pixels, check_block, check_candidate}

-- checks 1 to 6
unfoldable pub finish_refusal : List ℕ → Candidate → List ℕ → ℕ
finish_refusal px c block = check_pixels (length px) (check_block (length block) (check_candidate c 0))

-- the answer: the error, or the refusal with error 0
unfoldable pub finish_of : List ℕ → Candidate → List ℕ → Finished
finish_of px c block =
    pick (eqb (finish_refusal px c block) 0)
    (record { refusal = 0; error = (finish px c).error })
    (record { refusal = finish_refusal px c block; error = 0 })

-- the part afterwards: the block, or as it was
unfoldable pub finish_into : List ℕ → Candidate → List ℕ → List ℕ
finish_into px c block = pick (eqb (finish_refusal px c block) 0) (finish px c).block block
