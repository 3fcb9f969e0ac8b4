-- `figures::row::measure_row` meets its contract. The invariant: k errors are written, and the answer is that of k blocks.
use Rattle.std.proofs.Common.{ℕ, ◌≡◌}
use Rattle.lists.specs.Rows.{written}
use Rattle.figures.specs.Row.{measured_at, row_in, measured_row_of}
use Rattle.figures.proofs.row.measure_row.Given as goal

abbrev pub invariant-loop-k : goal.invariant-loop-k
invariant-loop-k l =
    (l.errors ≡ written (λ (i : ℕ). (measured_at l.groups l.blocks i).error) l.k l.initial.errors)
    × (row_in l.k l.row ≡ measured_row_of l.groups l.blocks l.k)
