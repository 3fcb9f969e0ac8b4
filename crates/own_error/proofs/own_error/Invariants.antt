-- `own_error::own_error` meets its contract. The invariant: the sum of what the first k blocks add.
use Rattle.std.proofs.Common.{◌≡◌, ◌*◌, ◌≤◌}
use Rattle.lists.specs.Rows.{sum_to}
use Rattle.own_error.specs.Own.{own_at}
use Rattle.own_error.proofs.own_error.Given as goal

abbrev pub invariant-loop-k : goal.invariant-loop-k
invariant-loop-k l =
    (l.total ≡ sum_to (own_at l.band.width l.band.rows l.groups l.blocks l.errors) l.k) × (l.total ≤ l.k * 4294967295)
