-- `keys::key::keys` meets its contract. The invariant: the first j keys are written.
use native.Mathlib.Omega.{arith}
use lib.ListN.{replicate, length-replicate}
use Rattle.lists.proofs.Rows.{written_next}
use Rattle.keys.proofs.key.keys.Goals as goal

pub loop-j-preserved : goal.loop-j-preserved
loop-j-preserved g c =
    let at = c.loop-j in
    rw (at.invariant, c.key_at.ensures.0) (written_next 0 _ (replicate g.row.N 0) at.j (rw length-replicate (omega arith)))
