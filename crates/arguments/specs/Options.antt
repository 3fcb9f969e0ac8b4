-- The options by their names.
use Rattle.std.specs.Prelude.{◌≡◌, ◌≢◌, ℕ, true, false, List, [], ◌∷◌, Option, None, Some, is_some, codes}
use Rattle.std.specs.Option.{option_map}
use Rattle.lists.specs.Tests.{pick}
use Rattle.arguments.specs.Line.{options_of, is_among, each_once, numbers_at}
use Rattle.arguments.specs.declared.names.Name.{Name}
use Rattle.arguments.specs.declared.names.Name.TheVariants as names
use Rattle.arguments.specs.declared.options.Options.{Options}
use Rattle.arguments.specs.declared.options.OptionName.{OptionName}
use Rattle.arguments.specs.declared.options.OptionName.TheVariants.{Rows, Worst, Total, Csv, Width, Block, Linear, White}

-- the word that is an option
abbrev pub option_word : OptionName → List ℕ
option_word Rows = codes "--rows"
option_word Worst = codes "--worst"
option_word Total = codes "--total"
option_word Csv = codes "--csv"
option_word Width = codes "--width"
option_word Block = codes "--block"
option_word Linear = codes "--linear"
option_word White = codes "--white"

-- how many numbers an option needs
abbrev pub numbers_needed : OptionName → ℕ
numbers_needed Rows = 2
numbers_needed Worst = 1
numbers_needed Total = 0
numbers_needed Csv = 0
numbers_needed Width = 1
numbers_needed Block = 1
numbers_needed Linear = 0
numbers_needed White = 1

-- the numbers of an option, where it is given
abbrev pub numbers_given : Options → OptionName → Option (List (Option ℕ))
numbers_given options Rows = option_map (λ rows. Some rows.from ∷ Some rows.count ∷ []) options.rows
numbers_given options Worst = option_map (λ worst. Some worst.count ∷ []) options.worst
numbers_given options Total = pick options.total (Some []) None
numbers_given options Csv = pick options.csv (Some []) None
numbers_given options Width = option_map (λ width. Some width.pixels ∷ []) options.width
numbers_given options Block = option_map (λ block. Some block ∷ []) options.block
numbers_given options Linear = pick options.linear (Some []) None
numbers_given options White = option_map (λ white. Some white ∷ []) options.white

-- where one option changes, no other does
pub record ChangesOnly (option : OptionName) (old new : Options) : Type 0 where
  pub rows : option ≢ Rows → new.rows ≡ old.rows
  pub worst : option ≢ Worst → new.worst ≡ old.worst
  pub total : option ≢ Total → new.total ≡ old.total
  pub csv : option ≢ Csv → new.csv ≡ old.csv
  pub width : option ≢ Width → new.width ≡ old.width
  pub block : option ≢ Block → new.block ≡ old.block
  pub linear : option ≢ Linear → new.linear ≡ old.linear
  pub white : option ≢ White → new.white ≡ old.white

-- the words that are options of a command
abbrev pub own_options : Name → List (List ℕ)
own_options names.Bake = codes "--rows" ∷ []
own_options names.Measure = codes "--worst" ∷ codes "--total" ∷ codes "--csv" ∷ []
own_options names.Read = codes "--width" ∷ codes "--block" ∷ []
own_options names.Show = []
own_options names.Map = codes "--linear" ∷ codes "--white" ∷ []
own_options names.Help = []

-- the options among the words are some of a list, each once, and none of them is given already
pub record OnceBeside (own : List (List ℕ)) (options : Options) (words : List (List ℕ)) : Type 0 where
  pub each : each_once own (options_of words) ≡ true
  pub new : (option : OptionName) → is_some (numbers_given options option) ≡ true →
      is_among (option_word option) (options_of words) ≡ false

-- where the options among the words that are left are some of a list, each once and not given, so are those among all the words before
abbrev pub StayOnce : List (List ℕ) → Options → List (List ℕ) → Options → List (List ℕ) → Type 0
StayOnce own old words new left = OnceBeside own new left → OnceBeside own old words

-- the first of two that is there
abbrev pub or_else : {A : Type 0} → Option A → Option A → Option A
or_else (Some a) b = Some a
or_else None b = b

-- the numbers of an option, where it is given or stands among the words
abbrev pub given_or_at : Options → List (List ℕ) → OptionName → Option (List (Option ℕ))
given_or_at options words option = or_else (numbers_given options option) (numbers_at (option_word option) words)

-- the options that are given, or else stand among the words, stay the same
abbrev pub SameGiven : Options → List (List ℕ) → Options → List (List ℕ) → Type 0
SameGiven old words new left = (option : OptionName) → given_or_at new left option ≡ given_or_at old words option

-- the options that are given are those among the words
abbrev pub AllGiven : Options → List (List ℕ) → Type 0
AllGiven options words = (option : OptionName) → numbers_given options option ≡ numbers_at (option_word option) words
