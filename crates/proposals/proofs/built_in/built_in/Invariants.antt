-- `proposals::built_in::built_in` meets its contract. The invariant: the proposals of the first partitions were offered.
use Rattle.std.proofs.Common.{◌≡◌}
use Rattle.chooser.specs.Calls.{after}
use Rattle.proposals.specs.Offers.{offers}
use Rattle.proposals.specs.BuiltIn.{proposals_to}
use Rattle.proposals.proofs.built_in.built_in.Given as goal

abbrev pub invariant-loop-partition : goal.invariant-loop-partition
invariant-loop-partition l = l.held ≡ after l.initial.held (offers (proposals_to l.initial.held.pixels l.partition))
