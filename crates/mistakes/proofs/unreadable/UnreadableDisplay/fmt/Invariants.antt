-- The loop of `fmt`: what stands before a mode is text.
use denote.Text.{Utf8}
use denote.Shadow.{shadow}
use Rattle.mistakes.proofs.unreadable.UnreadableDisplay.fmt.Given as goal

abbrev pub invariant-loop-number : goal.invariant-loop-number
invariant-loop-number g l =
    (goal.iterator-loop-number g).can_next l.number-iterator
    × (goal.iterator-loop-number g).is_finite l.number-iterator
    × shadow (Utf8 l.before)
