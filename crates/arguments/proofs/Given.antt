-- Laws of the options that are given.
use Prim.Native.Nat.{ℕ, zero, suc}
use mathlib.Core.Path.{◌≡◌, refl, ◌∙◌, sym, ap}
use mathlib.Core.Logic.{◌≢◌}
use mathlib.Core.Bool.{Bool, true, false}
use mathlib.Core.List.{List, [], ◌∷◌, map}
use lib.ListN.{take, drop}
use Rattle.std.specs.Prelude.{Option, None, Some}
use Rattle.std.specs.Str.{bytes_eq}
use Rattle.std.proofs.lemmas.Slice.Eq.{bytes_eq-Decides}
use Rattle.lists.specs.Tests.{pick}
use Rattle.text.specs.Decimal.{number_in}
use Rattle.arguments.specs.declared.options.Options.{Options}
use Rattle.arguments.specs.declared.options.OptionName.{OptionName}
use Rattle.arguments.specs.declared.options.OptionName.TheVariants.{Rows, Worst, Total, Csv, Width, Block, Linear, White}
use Rattle.arguments.specs.Line.{option_form, numbers_behind, behind_from, numbers_at}
use Rattle.arguments.specs.Options.{option_word, numbers_needed, numbers_given, ChangesOnly, or_else, given_or_at}
use Rattle.arguments.proofs.Words.{numbers_told}

-- the option that a word is, Rows for a word that is none
option_of : List ℕ → OptionName
option_of w =
    pick (bytes_eq w (option_word White)) White
    (pick (bytes_eq w (option_word Worst)) Worst
    (pick (bytes_eq w (option_word Total)) Total
    (pick (bytes_eq w (option_word Csv)) Csv
    (pick (bytes_eq w (option_word Width)) Width
    (pick (bytes_eq w (option_word Block)) Block
    (pick (bytes_eq w (option_word Linear)) Linear Rows))))))

-- the option that the word of an option is, is that option
option_told : (option : OptionName) → option_of (option_word option) ≡ option
unfolding option_of
option_told Rows = refl
option_told Worst = refl
option_told Total = refl
option_told Csv = refl
option_told Width = refl
option_told Block = refl
option_told Linear = refl
option_told White = refl

-- the word of each option is an option by its form
pub form_told : (option : OptionName) → option_form (option_word option) ≡ true
form_told Rows = refl
form_told Worst = refl
form_told Total = refl
form_told Csv = refl
form_told Width = refl
form_told Block = refl
form_told Linear = refl
form_told White = refl

-- words that are the same are those of the same option
pub same_option : (p o : OptionName) → bytes_eq (option_word p) (option_word o) ≡ true → p ≡ o
same_option p o e = sym (option_told p) ∙ ap option_of ((bytes_eq-Decides (option_word p) (option_word o)).0 e) ∙ option_told o

-- words that are not the same are those of different options
pub other_option : (p o : OptionName) → bytes_eq (option_word p) (option_word o) ≡ false → p ≢ o
other_option p o e same = cc ((bytes_eq-Decides (option_word p) (option_word o)).1 (ap option_word same))

-- where one option changes, the numbers of each other one stay the same
pub given_kept : (p o : OptionName) (old new : Options) → ChangesOnly p old new → p ≢ o → numbers_given new o ≡ numbers_given old o
given_kept p Rows old new c h = rw (c.rows h) refl
given_kept p Worst old new c h = rw (c.worst h) refl
given_kept p Total old new c h = rw (c.total h) refl
given_kept p Csv old new c h = rw (c.csv h) refl
given_kept p Width old new c h = rw (c.width h) refl
given_kept p Block old new c h = rw (c.block h) refl
given_kept p Linear old new c h = rw (c.linear h) refl
given_kept p White old new c h = rw (c.white h) refl

-- an option is looked for behind the numbers of the one before
behind_over : (option : List ℕ) (n : ℕ) (ws : List (List ℕ)) → behind_from option n ws ≡ behind_from option 0 (drop n ws)
behind_over option zero ws = refl
behind_over option (suc n) [] = refl
behind_over option (suc n) (w ∷ ws) = behind_over option n ws

-- the numbers of an option that stands at the front
at_front : (option : List ℕ) (ws : List (List ℕ)) → bytes_eq option option ≡ true →
    numbers_at option (option ∷ ws) ≡ Some (map number_in (take (numbers_behind option) ws))
unfolding numbers_at
at_front option ws e = rw e refl

-- where another option stands at the front, an option is looked for behind that one and its numbers
at_other : (w option : List ℕ) (ws : List (List ℕ)) → bytes_eq w option ≡ false → option_form w ≡ true →
    numbers_at option (w ∷ ws) ≡ numbers_at option (drop (numbers_behind w) ws)
unfolding numbers_at
at_other w option ws e f = rw (e, f, behind_over option (numbers_behind w) ws) refl

-- an option that is taken moves from the words to those that are given
pub option_taken : (p : OptionName) (old new : Options) (ws : List (List ℕ)) → numbers_given old p ≡ None →
    numbers_given new p ≡ Some (map number_in (take (numbers_needed p) ws)) → ChangesOnly p old new → (o : OptionName) →
    given_or_at new (drop (numbers_needed p) ws) o ≡ given_or_at old (option_word p ∷ ws) o
option_taken p old new ws none some c o = go (bytes_eq (option_word p) (option_word o)) refl
  where
    go : (t : Bool) → bytes_eq (option_word p) (option_word o) ≡ t →
        given_or_at new (drop (numbers_needed p) ws) o ≡ given_or_at old (option_word p ∷ ws) o
    go true e =
        let same = same_option p o e in
        let itself = (bytes_eq-Decides (option_word p) (option_word p)).1 refl in
        rw (← same, none, some, at_front (option_word p) ws itself, numbers_told p) refl
    go false e =
        let kept = given_kept p o old new c (other_option p o e) in
        rw (kept, at_other (option_word p) (option_word o) ws e (form_told p), numbers_told p) refl

-- where a name stands at the front, an option is looked for behind it
at_name : (w : List ℕ) (ws : List (List ℕ)) (o : OptionName) → option_form w ≡ false →
    numbers_at (option_word o) (w ∷ ws) ≡ numbers_at (option_word o) ws
unfolding numbers_at
at_name w ws o f = go (bytes_eq w (option_word o)) refl
  where
    go : (t : Bool) → bytes_eq w (option_word o) ≡ t → numbers_at (option_word o) (w ∷ ws) ≡ numbers_at (option_word o) ws
    go true e =
        let form : option_form w ≡ true = ap option_form ((bytes_eq-Decides w (option_word o)).0 e) ∙ form_told o in
        cc
    go false e = rw (e, f) refl

-- a name that is taken leaves the options as they are
pub name_passed : (options : Options) (w : List ℕ) (ws words : List (List ℕ)) (all : OptionName → Option (List (Option ℕ))) →
    option_form w ≡ false → words ≡ w ∷ ws → ((o : OptionName) → given_or_at options words o ≡ all o) →
    (o : OptionName) → given_or_at options ws o ≡ all o
name_passed options w ws words all f front e o = ap (or_else (numbers_given options o)) (rw front (sym (at_name w ws o f))) ∙ e o

-- where no words are left, all options are given
pub all_given : (options : Options) (words : List (List ℕ)) (all : OptionName → Option (List (Option ℕ))) → words ≡ [] →
    ((o : OptionName) → given_or_at options words o ≡ all o) → (o : OptionName) → numbers_given options o ≡ all o
unfolding numbers_at
all_given options words all none e o = go (numbers_given options o) (rw none at (e o))
  where
    go : (a : Option (List (Option ℕ))) → or_else a (numbers_at (option_word o) []) ≡ all o → a ≡ all o
    go None h = h
    go (Some a) h = h
