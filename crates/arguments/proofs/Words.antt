-- Laws of the words of a line.
use Prim.Native.Nat.{ℕ, zero, suc}
use mathlib.Core.Path.{◌≡◌, refl, ◌∙◌, sym, ap}
use mathlib.Core.Bool.{true, false}
use mathlib.Core.List.{List, [], ◌∷◌, ◌++◌, map-append, append_assoc, append-nil}
use lib.ListN.{drop}
use Rattle.arguments.specs.declared.options.OptionName.{OptionName}
use Rattle.arguments.specs.declared.options.OptionName.TheVariants.{Rows, Worst, Total, Csv, Width, Block, Linear, White}
use Rattle.std.specs.Borrow.{Bor}
use Rattle.arguments.specs.Line.{word_bytes, option_form, numbers_behind, names_from, names_of}
use Rattle.arguments.specs.Options.{option_word, numbers_needed}

-- the word of an option tells how many numbers stand behind it
pub numbers_told : (option : OptionName) → numbers_behind (option_word option) ≡ numbers_needed option
unfolding numbers_behind
numbers_told Rows = refl
numbers_told Worst = refl
numbers_told Total = refl
numbers_told Csv = refl
numbers_told Width = refl
numbers_told Block = refl
numbers_told Linear = refl
numbers_told White = refl

-- names are looked for behind the numbers of an option
names_behind : (n : ℕ) (ws : List (List ℕ)) → names_from n ws ≡ names_from 0 (drop n ws)
names_behind zero ws = refl
names_behind (suc n) [] = refl
names_behind (suc n) (w ∷ ws) = names_behind n ws

-- an option and its numbers are no names
pub names_option : (w : List ℕ) (ws : List (List ℕ)) → option_form w ≡ true →
    names_of (w ∷ ws) ≡ names_of (drop (numbers_behind w) ws)
unfolding names_of
names_option w ws h = rw h (names_behind (numbers_behind w) ws)

-- a word that is no option by its form is a name
pub names_name : (w : List ℕ) (ws : List (List ℕ)) → option_form w ≡ false → names_of (w ∷ ws) ≡ w ∷ names_of ws
unfolding names_of
names_name w ws h = rw h refl

-- a name that is taken from the words stands behind the names so far
pub names_taken : (names : List (Bor (List ℕ))) (w : Bor (List ℕ)) (ws all : List (List ℕ)) → option_form w.now ≡ false →
    word_bytes names ++ names_of (w.now ∷ ws) ≡ all → word_bytes (names ++ (w ∷ [])) ++ names_of ws ≡ all
names_taken names w ws all h e =
    ap (λ front. front ++ names_of ws) (map-append (λ v. v.now) names (w ∷ []))
    ∙ append_assoc (word_bytes names) (w.now ∷ []) (names_of ws)
    ∙ ap (λ back. word_bytes names ++ back) (sym (names_name w.now ws h))
    ∙ e

-- where no words are left, the names so far are all
pub names_all : (names all : List (List ℕ)) → names ++ names_of [] ≡ all → names ≡ all
unfolding names_of
names_all names all e = sym (append-nil names) ∙ e
