-- `proposals::baking::bake_row` meets its contract. The invariant: the blocks and the errors of the first k groups are written.
use Rattle.std.proofs.Common.{ℕ, ◌*◌, ◌≡◌, ◌++◌, drop}
use Rattle.lists.specs.Rows.{written}
use Rattle.lists.specs.Parts.{joined}
use Rattle.proposals.specs.Baking.{baked, group_at}
use Rattle.proposals.proofs.baking.bake_row.Given as goal

abbrev pub invariant-loop-k : goal.invariant-loop-k
invariant-loop-k l =
    (l.blocks ≡ joined (λ (i : ℕ). (baked (group_at l.groups i)).block) l.k ++ drop (l.k * 16) l.initial.blocks)
    × (l.errors ≡ written (λ (i : ℕ). (baked (group_at l.groups i)).error) l.k l.initial.errors)
