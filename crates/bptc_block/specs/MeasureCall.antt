-- The call `measure`: its answer. It writes to no part.
use Rattle.std.specs.Prelude.{ℕ, List, eqb}
use Rattle.lists.specs.Tests.{pick}
use Rattle.bptc_block.specs.Answers.{Measured}
use Rattle.bptc_block.specs.Chapter.{distance}
use Rattle.bptc_block.specs.ReadCall.{read_refusal}

-- the answer, with the checks of `read`: the distance, or the refusal with error 0
unfoldable pub measure_of : List ℕ → List ℕ → Measured
measure_of block px =
    pick (eqb (read_refusal block px) 0)
    (record { refusal = 0; error = distance px block })
    (record { refusal = read_refusal block px; error = 0 })
