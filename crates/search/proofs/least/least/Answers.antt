-- `search::least::least` meets its contract. The invariant: the first i are written.
use native.Mathlib.Omega.{arith}
use lib.ListN.{replicate}
use Rattle.lists.proofs.Rows.{written_next}
use Rattle.search.proofs.least.least.Goals as goal

pub loop-i-preserved : goal.loop-i-preserved
loop-i-preserved c =
    let at = c.loop-i in
    rw (at.invariant, c.min-in-loop-i-2.ensures, c.min.ensures, c.min-in-loop-i.ensures) (written_next 0 _ (replicate 16 0) at.i (omega arith))
