-- `figures::worst::insert` meets its contract. The invariant: the keys passed, and the carried one put into the rest, are as asked.
use Rattle.std.proofs.Common.{◌≡◌, ◌++◌, take, drop}
use Rattle.figures.specs.Worst.{inserted}
use Rattle.figures.proofs.worst.insert.Given as goal

abbrev pub invariant-loop-place : goal.invariant-loop-place
invariant-loop-place l =
    take l.place-index l.keys ++ inserted (drop l.place-index l.keys) l.carried ≡ inserted l.initial.keys l.fn.key
