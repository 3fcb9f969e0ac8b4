-- The loop of `work_on_rows`: the next row may be worked on.
use Rattle.std.proofs.Common.{◌+◌, ◌≤◌, ◌≡◌}
use Rattle.row_work.proofs.progress.work_on_rows.Given as goal

abbrev pub invariant-loop-row : goal.invariant-loop-row
invariant-loop-row g l =
    g.T.RowWork.ready l.work l.row
    × (l.rows.from + l.rows.count ≤ g.T.RowWork.rows_of l.work)
    × (g.T.RowWork.first l.work ≡ g.T.RowWork.first l.initial.work)
