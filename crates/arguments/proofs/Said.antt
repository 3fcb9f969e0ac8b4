-- What a command says of the words, by the options that are given.
use Prim.Native.Nat.{ℕ}
use mathlib.Core.Path.{◌≡◌, sym}
use mathlib.Core.Bool.{true, false}
use mathlib.Core.List.{List, [], ◌∷◌}
use Rattle.std.specs.Prelude.{Option, None, Some, codes}
use Rattle.std.specs.Option.{option_map}
use Rattle.shades.specs.declared.Scale.TheVariants as scale
use Rattle.arguments.specs.declared.numbers.Width.{Width}
use Rattle.arguments.specs.declared.options.Options.{Options}
use Rattle.arguments.specs.declared.options.OptionName.TheVariants as option
use Rattle.arguments.specs.declared.command.Shown.{Shown}
use Rattle.arguments.specs.declared.command.Shown.TheVariants.{Table, Worst, Both, Total, Csv}
use Rattle.arguments.specs.Line.{numbers_at}
use Rattle.arguments.specs.Options.{AllGiven}
use Rattle.arguments.specs.Commands.{Shows, RowsSaid, ShownSaid, ScaleSaid, NumberSaid}

-- the rows that are given are those that --rows says
pub rows_said : (options : Options) (words : List (List ℕ)) → AllGiven options words →
    RowsSaid options.rows words
rows_said options words given = sym (given option.Rows)

-- what is shown by the options that are given is what one of --worst, --total and --csv says
pub shown_said : (shown : Shown) (options : Options) (words : List (List ℕ)) →
    AllGiven options words → Shows shown options → ShownSaid shown words
shown_said Table options words given shows =
    (rw shows.0 at (sym (given option.Worst)), rw shows.1 at (sym (given option.Total)), rw shows.2 at (sym (given option.Csv)))
shown_said (Worst n) options words given shows =
    (rw shows.0 at (sym (given option.Worst)), rw shows.1 at (sym (given option.Total)), rw shows.2 at (sym (given option.Csv)))
shown_said (Both n) options words given shows = elim shows [ ]
shown_said Total options words given shows =
    (rw shows.0 at (sym (given option.Worst)), rw shows.1 at (sym (given option.Total)), rw shows.2 at (sym (given option.Csv)))
shown_said Csv options words given shows =
    (rw shows.0 at (sym (given option.Worst)), rw shows.1 at (sym (given option.Total)), rw shows.2 at (sym (given option.Csv)))

-- the width that is given is that of --width
pub width_said : (options : Options) (words : List (List ℕ)) → AllGiven options words →
    NumberSaid (codes "--width") (option_map (λ w. w.pixels) options.width) words
width_said options words given = go options.width (given option.Width)
  where
    go : (w : Option Width) → option_map (λ v. Some v.pixels ∷ []) w ≡ numbers_at (codes "--width") words →
        NumberSaid (codes "--width") (option_map (λ v. v.pixels) w) words
    go None h = sym h
    go (Some w) h = sym h

-- the number of a block that is given is that of --block
pub block_said : (options : Options) (words : List (List ℕ)) → AllGiven options words →
    NumberSaid (codes "--block") options.block words
block_said options words given = sym (given option.Block)

-- the error whose shade is white is that of --white
pub white_said : (options : Options) (words : List (List ℕ)) → AllGiven options words →
    NumberSaid (codes "--white") options.white words
white_said options words given = sym (given option.White)

-- where --linear is given, the scale is linear
pub scale_linear : (options : Options) (words : List (List ℕ)) → AllGiven options words →
    options.linear ≡ true → ScaleSaid scale.Linear words
scale_linear options words given linear = rw linear at (sym (given option.Linear))

-- where --linear is not given, the scale is that of the square root
pub scale_root : (options : Options) (words : List (List ℕ)) → AllGiven options words →
    options.linear ≡ false → ScaleSaid scale.SquareRoot words
scale_root options words given linear = rw linear at (sym (given option.Linear))
