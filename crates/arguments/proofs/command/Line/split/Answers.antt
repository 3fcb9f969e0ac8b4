-- A name is taken, and the last word is read.
use Rattle.std.proofs.Common.{rules, ◌≡◌, [], ◌∷◌, ◌++◌, false}
use Rattle.arguments.specs.Line.{names_of, numbers_at, option_form, word_bytes}
use Rattle.arguments.specs.Options.{option_word, own_options}
use Rattle.arguments.proofs.Words.{names_taken}
use Rattle.arguments.proofs.Given.{name_passed, all_given}
use Rattle.arguments.proofs.Once.{name_beside, no_options_left}
use Rattle.arguments.proofs.command.Line.split.Goals as goal

pub loop-word-preserved : goal.loop-word-preserved
loop-word-preserved g c =
    let w = c.in-Some.word in
    let ws = c.next.new.self in
    let words = word_bytes c.args.self.behind.now in
    let options = c.loop-word.options in
    let front : c.loop-word.rest ≡ w.now ∷ ws = search rules in
    let name : option_form w.now ≡ false = search rules in
    let pushed : c.try_push.new.self.items ≡ c.loop-word.names.items ++ (w ∷ []) = search rules in (
      rw pushed (names_taken c.loop-word.names.items w ws (names_of words) name (rw front at c.loop-word.invariant.0)),
      name_passed options w.now ws c.loop-word.rest (λ o. numbers_at (option_word o) words) name front c.loop-word.invariant.1,
      λ once. c.loop-word.invariant.2 (name_beside (own_options c.args.self.name) options w.now ws c.loop-word.rest name front once),
    )

pub returns-clause-given : goal.returns-clause-given
returns-clause-given g c =
    let none : c.loop-word.rest ≡ [] = search rules in
    let words = word_bytes c.args.self.behind.now in
    all_given c.loop-word.options c.loop-word.rest (λ o. numbers_at (option_word o) words) none c.loop-word.invariant.1

pub returns-clause-once : goal.returns-clause-once
returns-clause-once g c =
    c.loop-word.invariant.2 (no_options_left (own_options c.args.self.name) c.loop-word.options c.loop-word.rest (search rules))
