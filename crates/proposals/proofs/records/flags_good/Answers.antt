-- `proposals::records::flags_good` meets its contract.
use Rattle.std.proofs.Common.{sym, ◌∙◌}
use borrow.Author.Tests.{le-leb, lt-leb}
use Rattle.proposals.proofs.Flags.{flags_next}
use Rattle.proposals.proofs.records.flags_good.Goals as goal

pub returns-then-record-gt1 : goal.returns-then-record-gt1
returns-then-record-gt1 c =
    let inv = c.loop-record.invariant in
    let step = c.in-Some.ensures.steps in
    sym (inv.1 ∙ flags_next _ _ _ step.1.0 (step.1.1 ∙ inv.0) ∙ simp (lt-leb _ _ c.if-record-gt1.true))

pub loop-record-preserved : goal.loop-record-preserved
loop-record-preserved c =
    let inv = c.loop-record.invariant in
    let step = c.in-Some.ensures.steps in
    (step.0 ∙ inv.0, inv.1 ∙ flags_next _ _ _ step.1.0 (step.1.1 ∙ inv.0) ∙ simp (le-leb _ _ c.if-record-gt1.false))
