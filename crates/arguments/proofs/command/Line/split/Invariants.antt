-- The names and the options so far, and those among the words that are left, which get fewer.
use Rattle.std.proofs.Common.{length, ◌++◌, ◌≡◌, true}
use Rattle.arguments.specs.declared.options.OptionName.{OptionName}
use Rattle.arguments.specs.Line.{names_of, options_of, each_once, numbers_at, word_bytes}
use Rattle.arguments.specs.Options.{option_word, own_options, given_or_at, OnceBeside}
use Rattle.arguments.proofs.command.Line.split.Given as goal

abbrev pub invariant-loop-word : goal.invariant-loop-word
invariant-loop-word g l =
    (word_bytes l.names.items ++ names_of l.rest ≡ names_of (word_bytes l.self.behind.now))
    × ((option : OptionName) → given_or_at l.options l.rest option ≡ numbers_at (option_word option) (word_bytes l.self.behind.now))
    × (OnceBeside (own_options l.self.name) l.options l.rest
    → each_once (own_options l.self.name) (options_of (word_bytes l.self.behind.now)) ≡ true)

abbrev pub decreases-loop-word : goal.decreases-loop-word
decreases-loop-word g l = length l.rest
