-- `figures::row::read_row` meets its contract. The invariant: k groups are written, and the answer is that of k blocks.
use Rattle.std.proofs.Common.{◌≡◌}
use Rattle.figures.specs.Row.{row_in, read_row_of}
use Rattle.figures.proofs.Showing.{shown_to}
use Rattle.figures.proofs.row.read_row.Given as goal

abbrev pub invariant-loop-k : goal.invariant-loop-k
invariant-loop-k l =
    (l.groups ≡ shown_to l.blocks l.initial.groups l.k) × (row_in l.k l.row ≡ read_row_of l.blocks l.initial.groups l.k)
