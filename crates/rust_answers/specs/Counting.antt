-- Counting answers, modulo 2 ^ 64.
use Rattle.std.specs.Prelude.{◌+◌, ◌%◌, ◌^◌, Bool}
use Rattle.lists.specs.Tests.{pick}
use Rattle.rust_answers.specs.declared.tally.Count.{Count}

-- one answer more, which is the recorded one or differs
abbrev pub counted_answer : Count → Bool → Count
counted_answer n same = record { answers = (n.answers + 1) % 2 ^ 64; differ = pick same n.differ ((n.differ + 1) % 2 ^ 64) }
