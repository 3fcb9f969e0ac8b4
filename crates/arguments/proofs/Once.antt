-- Laws of the options among words, each of which stands once.
use mathlib.Core.Path.{◌≡◌, refl, sym, ap}
use mathlib.Core.Bool.{Bool, true, false}
use Prim.Native.Nat.{ℕ, zero, suc}
use mathlib.Core.List.{List, [], ◌∷◌, map}
use lib.ListN.{take, drop}
use Rattle.std.specs.Prelude.{None, Some, is_some}
use Rattle.std.specs.Str.{bytes_eq}
use Rattle.text.specs.Decimal.{number_in}
use Rattle.arguments.specs.declared.options.Options.{Options}
use Rattle.arguments.specs.declared.options.OptionName.{OptionName}
use Rattle.arguments.specs.Line.{option_form, numbers_behind, options_from, options_of, is_among}
use Rattle.arguments.specs.Options.{option_word, numbers_needed, numbers_given, ChangesOnly, OnceBeside}
use Rattle.arguments.proofs.Words.{numbers_told}
use Rattle.arguments.proofs.Given.{form_told, same_option, other_option, given_kept}

-- options are looked for behind the numbers of the one before
options_behind : (n : ℕ) (ws : List (List ℕ)) → options_from n ws ≡ options_from 0 (drop n ws)
options_behind zero ws = refl
options_behind (suc n) [] = refl
options_behind (suc n) (w ∷ ws) = options_behind n ws

-- an option at the front of a line is the first of its options
options_option : (w : List ℕ) (ws : List (List ℕ)) → option_form w ≡ true →
    options_of (w ∷ ws) ≡ w ∷ options_of (drop (numbers_behind w) ws)
unfolding options_of
options_option w ws h = rw h (ap (λ back. w ∷ back) (options_behind (numbers_behind w) ws))

-- a name at the front of a line is none of its options
options_name : (w : List ℕ) (ws : List (List ℕ)) → option_form w ≡ false → options_of (w ∷ ws) ≡ options_of ws
unfolding options_of
options_name w ws h = rw h refl

-- where no words are left, the options among them are of any list, each once, and none is given
pub no_options_left : (own : List (List ℕ)) (options : Options) (words : List (List ℕ)) → words ≡ [] → OnceBeside own options words
unfolding options_of
no_options_left own options words none = rw none record {
  each = refl;
  new = λ option given. refl;
}

-- where options beside those given stand once, they do so with a name before the words
pub name_beside : (own : List (List ℕ)) (options : Options) (w : List ℕ) (ws words : List (List ℕ)) → option_form w ≡ false →
    words ≡ w ∷ ws → OnceBeside own options ws → OnceBeside own options words
name_beside own options w ws words name front once = record {
  each = rw (front, options_name w ws name) once.each;
  new = λ option given. rw (front, options_name w ws name) (once.new option given);
}

-- where options beside those given, of which one is new, stand once, they do so with the new one before the words
pub option_once : (own : List (List ℕ)) (p : OptionName) (old new : Options) (ws : List (List ℕ)) →
    is_among (option_word p) own ≡ true → numbers_given old p ≡ None →
    numbers_given new p ≡ Some (map number_in (take (numbers_needed p) ws)) → ChangesOnly p old new →
    OnceBeside own new (drop (numbers_needed p) ws) → OnceBeside own old (option_word p ∷ ws)
option_once own p old new ws among none some c once =
    let left = options_of (drop (numbers_needed p) ws) in
    let front : options_of (option_word p ∷ ws) ≡ option_word p ∷ left =
    rw (← numbers_told p) (options_option (option_word p) ws (form_told p)) in
    record {
      each = rw (front, among, once.new p (rw some refl), once.each) refl;
      new = λ o given. rw front (go o given (bytes_eq (option_word o) (option_word p)) refl);
    }
  where
    go : (o : OptionName) → is_some (numbers_given old o) ≡ true → (t : Bool) → bytes_eq (option_word o) (option_word p) ≡ t →
        is_among (option_word o) (option_word p ∷ options_of (drop (numbers_needed p) ws)) ≡ false
    go o given true e = let same = same_option o p e in cc
    go o given false e = rw e (once.new o (rw (given_kept p o old new c (λ h. other_option o p e (sym h))) given))
