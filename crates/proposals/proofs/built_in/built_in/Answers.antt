-- `proposals::built_in::built_in` meets its contract.
use Rattle.std.proofs.Common.{◌≡◌, sym, ap, ◌∙◌, arith}
use Rattle.chooser.specs.declared.Chooser.{Chooser}
use Rattle.corners.specs.Corners.{planes_of}
use Rattle.proposals.specs.BuiltIn.{proposals_to, proposals_of}
use Rattle.proposals.proofs.Offering.{after-pixels}
use Rattle.proposals.proofs.built_in.built_in.Goals as goal

pub offer_both-held-requires : goal.offer_both-held-requires
offer_both-held-requires c =
    let at = c.loop-partition in
    let ch = c.args.ch in
    c.of-planes.ensures ∙ ap planes_of (sym (ap (λ (h : Chooser). h.pixels) at.invariant ∙ after-pixels (proposals_to ch.pixels at.partition) ch))

pub returns : goal.returns
unfolding proposals_of
returns c =
    let e : c.loop-partition.partition ≡ 64 = omega arith in
    rw e at c.loop-partition.invariant
