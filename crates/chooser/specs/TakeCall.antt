-- The call `take`: its answer, and what the lent block part holds afterwards.
use Rattle.std.specs.Prelude.{ℕ, List, eqb, length}
use Rattle.lists.specs.Tests.{pick}
use Rattle.bptc_block.specs.Refusal.{check_block}
use Rattle.chooser.specs.declared.Chooser.{Chooser}
use Rattle.chooser.specs.Answers.{TakeAnswer}

-- check 2
abbrev pub take_refusal : List ℕ → ℕ
take_refusal part = check_block (length part) 0

-- the answer: the error, or the refusal with error 0; the chooser comes back as it was
unfoldable pub take_of : Chooser → List ℕ → TakeAnswer
take_of ch part =
    record {
      answer = pick (eqb (take_refusal part) 0) (record { refusal = 0; error = ch.error }) (record { refusal = take_refusal part; error = 0 });
      chooser = ch;
    }

-- the part afterwards: the block, or as it was
unfoldable pub take_into : Chooser → List ℕ → List ℕ
take_into ch part = pick (eqb (take_refusal part) 0) ch.block part
