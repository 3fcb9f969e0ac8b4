-- `figures::Figures::counted_row` meets its contract. The invariant: the errors left, counted on, give the answer.
use Rattle.std.proofs.Common.{◌+◌, ◌*◌, ◌≤◌, ◌≡◌, drop}
use Rattle.figures.specs.Figures.{counted_all}
use Rattle.figures.proofs.Figures.counted_row.Given as goal

abbrev pub invariant-loop-error : goal.invariant-loop-error
invariant-loop-error l =
    (counted_all l.figures (drop l.error-index l.errors) ≡ counted_all l.initial.figures l.errors)
    × (l.figures.block_errors ≤ l.row * 17592186044416 + l.error-index * 4294967295)
    × (l.figures.blocks ≤ l.row * 4096 + l.error-index)
    × (l.initial.figures.place ≤ l.row * 4096 → l.figures.place ≤ l.row * 4096 + l.error-index)
