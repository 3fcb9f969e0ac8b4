-- The subsets swapped one after the other, as the Rust does it, each by the index that its anchor then has.
use Rattle.std.specs.Prelude.{ℕ, List, [], ◌∷◌, eqb}
use Rattle.lists.specs.Tests.{and}
use Rattle.bptc.specs.Mode.{Mode}
use Rattle.bptc_block.specs.Fields.{BlockFields}
use Rattle.bptc_block.specs.Exchange.{swaps, swapped_by}

-- one subset swapped, by the index that its anchor has
unfoldable pub exchange_one : Mode → ℕ → BlockFields → BlockFields
exchange_one m s f = swapped_by m (λ (t : ℕ). and (eqb t s) (swaps m f s)) f

-- the subsets of a list swapped, in its order
unfoldable pub exchange_all : Mode → List ℕ → BlockFields → BlockFields
exchange_all m [] f = f
exchange_all m (s ∷ ss) f = exchange_all m ss (exchange_one m s f)
