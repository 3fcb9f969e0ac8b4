-- `figures::worst::insert` meets its contract.
use Rattle.std.proofs.Common.{◌<◌, ◌≤◌, ◌∙◌, length, add-one, arith}
use mathlib.Core.List.{append-nil}
use lib.ListN.{drop_of_length-le}
use lib.Seq.{take_all}
use Rattle.figures.specs.Worst.{inserted}
use Rattle.figures.proofs.Carrying.{passed}
use Rattle.figures.proofs.worst.insert.Goals as goal

pub loop-place-preserved : goal.loop-place-preserved
loop-place-preserved c =
    let at = c.loop-place in
    let here : at.place-index < length at.keys = omega arith in
    rw add-one (passed at.keys at.carried at.place-index _ _ here c.max.ensures c.min-carried.ensures ∙ at.invariant)

pub returns : goal.returns
unfolding inserted
returns c =
    let at = c.loop-place in
    let h : length at.keys ≤ at.place-index = omega arith in
    rw (take_all at.place-index at.keys h, drop_of_length-le at.keys h, append-nil) at at.invariant
