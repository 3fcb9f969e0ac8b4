-- What a command says of the words of its line.
use Rattle.std.specs.Prelude.{◌≡◌, ◌⊎◌, ℕ, nat_eq, Bool, true, false, List, length, [], ◌∷◌, Option, None, Some, codes}
use Rattle.std.specs.Borrow.{Bor}
use Rattle.std.specs.List.{list_any}
use Rattle.std.specs.Option.{option_map}
use Rattle.text.specs.Decimal.{number_in}
use Rattle.arguments.specs.declared.names.Name.{Name}
use Rattle.arguments.specs.declared.names.Name.TheVariants as names
use Rattle.arguments.specs.declared.command.Command.{Command}
use Rattle.arguments.specs.declared.command.Command.TheVariants.{Bake, Measure, Read, Show, Map, Help, Version}
use Rattle.arguments.specs.declared.options.Options.{Options}
use Rattle.arguments.specs.declared.command.Shown.{Shown}
use Rattle.arguments.specs.declared.command.Shown.TheVariants.{Table, Worst, Both, Total, Csv}
use Rattle.shades.specs.declared.Scale.{Scale}
use Rattle.shades.specs.declared.Scale.TheVariants.{SquareRoot, Linear}
use Rattle.sizes.specs.declared.rows.Rows.{Rows}
use Rattle.arguments.specs.Line.{word_bytes, help_form, names_of, options_of, each_once, numbers_at}

-- the words that name a command
abbrev pub Names : Name → List ℕ → Type 0
Names names.Bake word = word ≡ codes "bake"
Names names.Measure word = word ≡ codes "measure"
Names names.Read word = word ≡ codes "read"
Names names.Show word = word ≡ codes "show"
Names names.Map word = word ≡ codes "map"
Names names.Help word = (word ≡ codes "help") ⊎ (word ≡ codes "-h") ⊎ (word ≡ codes "--help")

-- what is shown by the options that are given: no options have the table and the worst blocks shown
abbrev pub Shows : Shown → Options → Type 0
Shows Table options = (options.worst ≡ None) × (options.total ≡ false) × (options.csv ≡ false)
Shows (Worst n) options = (options.worst ≡ Some n) × (options.total ≡ false) × (options.csv ≡ false)
Shows (Both n) options = ⊥
Shows Total options = (options.worst ≡ None) × (options.total ≡ true) × (options.csv ≡ false)
Shows Csv options = (options.worst ≡ None) × (options.total ≡ false) × (options.csv ≡ true)

-- the rows of blocks are those of --rows
abbrev pub RowsSaid : Option Rows → List (List ℕ) → Type 0
RowsSaid rows words = numbers_at (codes "--rows") words ≡ option_map (λ r. Some r.from ∷ Some r.count ∷ []) rows

-- what is shown is what the one of --worst, --total and --csv says that stands there: no words have the table and the worst blocks shown
abbrev pub ShownSaid : Shown → List (List ℕ) → Type 0
ShownSaid Table words =
    (numbers_at (codes "--worst") words ≡ None)
    × (numbers_at (codes "--total") words ≡ None) × (numbers_at (codes "--csv") words ≡ None)
ShownSaid (Worst n) words =
    (numbers_at (codes "--worst") words ≡ Some (Some n.count ∷ []))
    × (numbers_at (codes "--total") words ≡ None) × (numbers_at (codes "--csv") words ≡ None)
ShownSaid (Both n) words = ⊥
ShownSaid Total words =
    (numbers_at (codes "--worst") words ≡ None)
    × (numbers_at (codes "--total") words ≡ Some []) × (numbers_at (codes "--csv") words ≡ None)
ShownSaid Csv words =
    (numbers_at (codes "--worst") words ≡ None)
    × (numbers_at (codes "--total") words ≡ None) × (numbers_at (codes "--csv") words ≡ Some [])

-- the scale is linear where --linear stands
abbrev pub ScaleSaid : Scale → List (List ℕ) → Type 0
ScaleSaid SquareRoot words = numbers_at (codes "--linear") words ≡ None
ScaleSaid Linear words = numbers_at (codes "--linear") words ≡ Some []

-- a number is that of an option, and none where the option does not stand
abbrev pub NumberSaid : List ℕ → Option ℕ → List (List ℕ) → Type 0
NumberSaid option n words = numbers_at option words ≡ option_map (λ k. Some k ∷ []) n

-- the command has this name, its options are those behind it, and its files the words that are neither options nor their numbers
abbrev pub CommandSaid : Command → Name → List (List ℕ) → Type 0
CommandSaid (Bake rows photo plate None) name words =
    (name ≡ names.Bake) × (names_of words ≡ photo.now ∷ plate.now ∷ []) × RowsSaid rows words
CommandSaid (Bake rows photo plate (Some proposals)) name words =
    (name ≡ names.Bake) × (names_of words ≡ photo.now ∷ plate.now ∷ proposals.now ∷ []) × RowsSaid rows words
CommandSaid (Measure photo plate shown) name words =
    (name ≡ names.Measure) × (names_of words ≡ photo.now ∷ plate.now ∷ []) × ShownSaid shown words
CommandSaid (Read plate width block) name words =
    (name ≡ names.Read) × (names_of words ≡ plate.now ∷ [])
    × NumberSaid (codes "--width") (option_map (λ w. w.pixels) width) words × NumberSaid (codes "--block") block words
CommandSaid (Show plate size out) name words =
    (name ≡ names.Show) × (width : List ℕ) × (height : List ℕ) × (names_of words ≡ plate.now ∷ width ∷ height ∷ out.now ∷ [])
    × (number_in width ≡ Some size.width) × (number_in height ≡ Some size.height)
CommandSaid (Map photo plate out scale white) name words =
    (name ≡ names.Map) × (names_of words ≡ photo.now ∷ plate.now ∷ out.now ∷ [])
    × ScaleSaid scale words × NumberSaid (codes "--white") white words
CommandSaid (Help None) name words = (name ≡ names.Help) × (names_of words ≡ [])
CommandSaid (Help (Some asked)) name words =
    (name ≡ names.Help) × (word : List ℕ) × (names_of words ≡ word ∷ []) × Names asked word
CommandSaid Version name words = ⊥

-- words with one before them, where there is a value
abbrev pub with_some : {A : Type 0} → Option A → List ℕ → List (List ℕ) → List (List ℕ)
with_some None word words = words
with_some (Some a) word words = word ∷ words

-- the options whose value a command has
abbrev pub options_said : Command → List (List ℕ)
options_said (Bake rows photo plate proposals) = with_some rows (codes "--rows") []
options_said (Measure photo plate Table) = []
options_said (Measure photo plate (Worst n)) = codes "--worst" ∷ []
options_said (Measure photo plate (Both n)) = codes "--worst" ∷ []
options_said (Measure photo plate Total) = codes "--total" ∷ []
options_said (Measure photo plate Csv) = codes "--csv" ∷ []
options_said (Read plate width block) = with_some width (codes "--width") (with_some block (codes "--block") [])
options_said (Show plate size out) = []
options_said (Map photo plate out SquareRoot white) = with_some white (codes "--white") []
options_said (Map photo plate out Linear white) = codes "--linear" ∷ with_some white (codes "--white") []
options_said (Help name) = []
options_said Version = []

-- whether one of the words asks for help
abbrev pub help_asked : List (Bor (List ℕ)) → Bool
help_asked words = list_any (λ word. help_form word.now) words

-- whether one of the words is empty
abbrev pub any_empty : List (Bor (List ℕ)) → Bool
any_empty words = list_any (λ word. nat_eq (length word.now) 0) words

-- the command is that of the words of a line: help of the command that is named where -h or --help stands behind it; else each option
-- stands once, and the command has its value
abbrev pub Says : Command → List (Bor (List ℕ)) → Type 0
Says command [] = command ≡ Help None
Says command (word ∷ words) =
    ((command ≡ Version) × (word.now ≡ codes "--version") × (words ≡ []))
    ⊎ ((name : Name) × Names name word.now
    × (((command ≡ Help (Some name)) × (help_asked words ≡ true))
    ⊎ (CommandSaid command name (word_bytes words) × (each_once (options_said command) (options_of (word_bytes words)) ≡ true)
    × (help_asked words ≡ false) × (any_empty words ≡ false))))
