-- `partitions::mask` meets its contract: each arm computes to its entry, and past the table there is 0.
use borrow.Author.Rules.{rules}
use Prim.Native.Nat.{◌≤◌}
use mathlib.Core.Path.{sym}
use lib.ListN.{get_or-eq_default}
use Rattle.lists.proofs.Tables.{past_arms}
use Rattle.bptc.specs.Partition.{masks, table, digits_of}
use Rattle.partitions.proofs.mask.Goals as goal

pub returns-in_default : goal.returns-in_default
unfolding table masks digits_of
returns-in_default c =
    let h : 64 ≤ c.args.partition = past_arms _ 64 (search rules) in
    sym (get_or-eq_default masks 0 h)
