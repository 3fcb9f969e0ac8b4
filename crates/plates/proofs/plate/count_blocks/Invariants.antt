-- The loop of `count_blocks`: the blocks left, counted on, give the counts of all.
use Rattle.std.proofs.Common.{◌≡◌}
use Rattle.std.specs.Slice.Iter.{chunks_exact_rest, chunks_exact_size}
use Rattle.mistakes.specs.Counts.{modes_counted}
use Rattle.plates.specs.Counting.{modes_in}
use Rattle.plates.proofs.plate.count_blocks.Given as goal

abbrev pub invariant-loop-block : goal.invariant-loop-block
invariant-loop-block l =
    (chunks_exact_size l.block-iterator ≡ 16)
    × (modes_counted l.initial.counts (modes_in l.blocks) ≡ modes_counted l.counts (modes_in (chunks_exact_rest l.block-iterator)))
