-- The words of a line: options with their numbers, and the names beside them.
use Rattle.std.specs.Prelude.{ℕ, zero, suc, nat_eq, Bool, true, not, List, [], ◌∷◌, map, take, Option, None, Some, codes}
use Rattle.std.specs.Option.{option_map}
use Rattle.std.specs.Borrow.{Bor}
use Rattle.std.specs.List.{starts_with, list_any}
use Rattle.std.specs.Str.{bytes_eq}
use Rattle.lists.specs.Tests.{pick, and, or}
use Rattle.text.specs.Decimal.{number_in}

-- the bytes of each of some words
abbrev pub word_bytes : List (Bor (List ℕ)) → List (List ℕ)
word_bytes words = map (λ word. word.now) words

-- whether a word is an option by its form
abbrev pub option_form : List ℕ → Bool
option_form word = starts_with nat_eq word (codes "--")

-- whether a word asks for the help of the command before it
abbrev pub help_form : List ℕ → Bool
help_form word = or (bytes_eq word (codes "-h")) (bytes_eq word (codes "--help"))

-- the options with a number behind them
abbrev pub with_number : List (List ℕ)
with_number = codes "--worst" ∷ codes "--width" ∷ codes "--block" ∷ codes "--white" ∷ []

-- how many numbers stand behind a word that is an option
unfoldable pub numbers_behind : List ℕ → ℕ
numbers_behind word = pick (bytes_eq word (codes "--rows")) 2 (pick (list_any (bytes_eq word) with_number) 1 0)

-- the words that are neither options nor their numbers, where the first few are such numbers
abbrev pub names_from : ℕ → List (List ℕ) → List (List ℕ)
names_from n [] = []
names_from (suc n) (w ∷ ws) = names_from n ws
names_from zero (w ∷ ws) = pick (option_form w) (names_from (numbers_behind w) ws) (w ∷ names_from zero ws)

-- the words that are neither options nor their numbers
unfoldable pub names_of : List (List ℕ) → List (List ℕ)
names_of ws = names_from 0 ws

-- the words that are options, where the first few are numbers of the one before
abbrev pub options_from : ℕ → List (List ℕ) → List (List ℕ)
options_from n [] = []
options_from (suc n) (w ∷ ws) = options_from n ws
options_from zero (w ∷ ws) = pick (option_form w) (w ∷ options_from (numbers_behind w) ws) (options_from zero ws)

-- the words that are options
unfoldable pub options_of : List (List ℕ) → List (List ℕ)
options_of ws = options_from 0 ws

-- whether a word is one of a list
abbrev pub is_among : List ℕ → List (List ℕ) → Bool
is_among word words = list_any (bytes_eq word) words

-- whether each word of the second list is one of the first, and none stands twice
abbrev pub each_once : List (List ℕ) → List (List ℕ) → Bool
each_once own [] = true
each_once own (w ∷ ws) = and (is_among w own) (and (not (is_among w ws)) (each_once own ws))

-- the words behind the first standing of an option, where it stands, and where the first few words are numbers of the one before
abbrev pub behind_from : List ℕ → ℕ → List (List ℕ) → Option (List (List ℕ))
behind_from option n [] = None
behind_from option (suc n) (w ∷ ws) = behind_from option n ws
behind_from option zero (w ∷ ws) =
    pick (bytes_eq w option) (Some ws) (pick (option_form w) (behind_from option (numbers_behind w) ws) (behind_from option zero ws))

-- the numbers behind an option, where it stands
unfoldable pub numbers_at : List ℕ → List (List ℕ) → Option (List (Option ℕ))
numbers_at option ws = option_map (λ behind. map number_in (take (numbers_behind option) behind)) (behind_from option 0 ws)
