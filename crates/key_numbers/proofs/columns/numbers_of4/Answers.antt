-- `key_numbers::columns::numbers_of4` meets its contract.
use Prim.Native.Nat.{ℕ, ◌/◌, ◌%◌}
use mathlib.Core.Path.{ap, ap₂, ◌∙◌}
use mathlib.Core.List.{List, map}
use lib.ListN.{get_or}
use Rattle.lists.specs.Rows.{up_from}
use Rattle.bptc.specs.Internal.Pixels.{pixel_of}
use Rattle.key_numbers.specs.Numbers.{joined_rows, flat_columns, numbers_of}
use Rattle.key_numbers.proofs.columns.numbers_of4.Goals as goal

pub returns : goal.returns
unfolding flat_columns
returns c =
    c.numbers.ensures
    ∙ ap (λ (ws : List ℕ). numbers_of 8 32 (λ (k : ℕ). pixel_of (get_or ws k 0)) (λ (k : ℕ). k / 4 % 4))
    (c.joined.ensures ∙ ap₂ (λ (first second : List ℕ). map (joined_rows first second) (up_from 0 32)) c.interleaved-first.ensures c.interleaved-second.ensures)
