-- `plates::plate::count_blocks` meets its contract.
use Rattle.std.proofs.Common.{sym, ap, ◌∙◌}
use Rattle.std.specs.Slice.Iter.{chunks_exact_rest}
use Rattle.mistakes.specs.declared.unreadable.Unreadable.{Unreadable}
use Rattle.mistakes.specs.Unreadable.{counted}
use Rattle.mistakes.specs.Counts.{modes_counted}
use Rattle.plates.specs.Counting.{modes_in}
use Rattle.plates.proofs.Counting.{counted_next, no_blocks}
use Rattle.plates.proofs.plate.count_blocks.Goals as goal

pub loop-block-preserved : goal.loop-block-preserved
loop-block-preserved c =
    let inv = c.loop-block.invariant in
    let step = c.in-Some.ensures.steps in (
      step.0 ∙ inv.0,
      inv.1 ∙ counted_next _ _ _ _ step.1.0 (step.1.1 ∙ inv.0)
          ∙ ap (λ (u : Unreadable). modes_counted u (modes_in (chunks_exact_rest c.next.new.self)))
          (ap (counted c.loop-block.counts) (sym c.of.ensures) ∙ sym c.count.ensures),
    )

pub returns : goal.returns
returns c =
    let inv = c.loop-block.invariant in
    let step = c.in-None.ensures.steps in
    sym (inv.1 ∙ no_blocks _ _ (rw inv.0 at step.1.0))
