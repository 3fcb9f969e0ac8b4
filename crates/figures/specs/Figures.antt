-- The figures of blocks by their errors.
use Rattle.std.specs.Prelude.{ℕ, ◌+◌, ◌≤◌, ◌<◌, ◌≡◌, List, [], ◌∷◌, ◌++◌, ltb, length, get_or}
use Rattle.lists.specs.Rows.{sum}
use Rattle.lists.specs.Tests.{pick}
use Rattle.figures.specs.declared.Figures.{Figures}

-- the figures of no blocks
abbrev pub none_yet : Figures
none_yet = record { blocks = 0; block_errors = 0; worst = 0; place = 0 }

-- one block more; it is the worst where its error is greater than that of each before it
abbrev pub counted_of : Figures → ℕ → Figures
counted_of f error = record {
  blocks = f.blocks + 1;
  block_errors = f.block_errors + error;
  worst = pick (ltb f.worst error) error f.worst;
  place = pick (ltb f.worst error) f.blocks f.place;
}

-- a list of blocks more
unfoldable pub counted_all : Figures → List ℕ → Figures
counted_all f [] = f
counted_all f (e ∷ es) = counted_all (counted_of f e) es

-- the greatest error and its place in a list
pub record FirstWorst (worst place : ℕ) (errors : List ℕ) : Type 0 where
  -- none is greater
  pub greatest : (k : ℕ) → get_or errors k 0 ≤ worst
  -- it is the error at its place, and 0 where there are none
  pub held : get_or errors place 0 ≡ worst
  -- those before are less
  pub first : (k : ℕ) → k < place → get_or errors k 0 < worst
  -- the place is in the list, and 0 where there are none
  pub inside : 0 < length errors → place < length errors
  pub empty : length errors ≡ 0 → place ≡ 0

-- what figures say of a list of errors
pub record Counts (f : Figures) (errors : List ℕ) : Type 0 where
  -- how many blocks there are
  pub many : f.blocks ≡ length errors
  -- the sum of the errors
  pub summed : f.block_errors ≡ sum errors
  -- the greatest error, and the first block that has it
  pub worst : FirstWorst f.worst f.place errors

-- counted from none, the figures say this of the blocks counted
abbrev pub CountsAll : Type 0
CountsAll = (errors : List ℕ) → Counts (counted_all none_yet errors) errors

-- lists counted one after the other count as one
abbrev pub CountsRows : Type 0
CountsRows = (f : Figures) (xs ys : List ℕ) → counted_all f (xs ++ ys) ≡ counted_all (counted_all f xs) ys
