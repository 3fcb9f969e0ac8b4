-- Laws of the keys of blocks.
use native.Mathlib.Omega.{arith}
use mathlib.Core.Logic.{⊎_elim}
use Rattle.figures.specs.Worst.{KeyParts, WorseFirst, EarlierFirst}

-- the parts
pub key_parts : KeyParts
key_parts error number mode partition h m p = record {
  its_error = omega arith;
  its_number = omega arith;
  its_mode = ⊎_elim (λ e. omega arith) (λ e. rw e (omega arith)) m;
  its_partition = omega arith;
  some = omega arith;
}

-- the greater error
pub worse_first : WorseFirst
worse_first e n m p f o q r h = omega arith

-- the earlier block
pub earlier-first : EarlierFirst
earlier-first e n m p o q r h l = omega arith
