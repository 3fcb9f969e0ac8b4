-- `key_numbers::columns::joined` meets its contract. The invariant: the first k places of each half are written.
use native.Mathlib.Omega.{arith}
use Rattle.lists.proofs.Writing.{halves-next}
use Rattle.key_numbers.proofs.columns.joined.Goals as goal

pub loop-k-preserved : goal.loop-k-preserved
loop-k-preserved c =
    let at = c.loop-k in
    rw at.invariant (halves-next 16 at.k (omega arith) _ _)
