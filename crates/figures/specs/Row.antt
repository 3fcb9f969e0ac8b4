-- The errors of a row of blocks, the pixels that it shows, and where the first of the blocks is declined.
use Rattle.std.specs.Prelude.{ℕ, suc, ◌+◌, ◌*◌, ◌≤◌, ◌<◌, ◌≡◌, List, [], ◌∷◌, map, eqb, length, get_or, replicate, Result, Ok, Err}
use Rattle.lists.specs.Rows.{up_from}
use Rattle.lists.specs.Parts.{part_at, joined}
use Rattle.lists.specs.Tests.{pick}
use Rattle.bptc_block.specs.Answers.{Measured}
use Rattle.bptc_block.specs.ReadCall.{read_refusal, read_into}
use Rattle.bptc_block.specs.MeasureCall.{measure_of}
use Rattle.refusals.specs.declared.Refusal.{Refusal}
use Rattle.refusals.specs.Numbers.{number_of}
use Rattle.figures.specs.declared.row.Declined.{Declined}

-- where the first block stands that is declined, and the number of its refusal; 0 and the number of blocks where none is
pub record Row : Type 0 where
  pub refusal : ℕ
  pub at : ℕ

-- what an answer for n blocks stands for
abbrev pub row_in : ℕ → Result (Unit {0}) Declined → Row
row_in n (Ok done) = record { refusal = 0; at = n }
row_in n (Err d) = record { refusal = number_of d.refusal; at = d.at }

-- the number of one block's answer, 0 where it is not declined
abbrev pub refusal_in : {T : Type 0} → Result T Refusal → ℕ
refusal_in (Ok given) = 0
refusal_in (Err refusal) = number_of refusal

-- block k, measured against its group of pixels
unfoldable pub measured_at : List ℕ → List ℕ → ℕ → Measured
measured_at groups blocks k = measure_of (part_at 16 k blocks) (part_at 48 k groups)

-- the errors of n blocks, 0 for one that is declined
unfoldable pub errors_of : List ℕ → List ℕ → ℕ → List ℕ
errors_of groups blocks n = map (λ (k : ℕ). (measured_at groups blocks k).error) (up_from 0 n)

-- the refusal of reading block k into its group of pixels
unfoldable pub refusal_at : List ℕ → List ℕ → ℕ → ℕ
refusal_at blocks groups k = read_refusal (part_at 16 k blocks) (part_at 48 k groups)

-- the group after it: the pixels of block k, or as it was
unfoldable pub shown_at : List ℕ → List ℕ → ℕ → List ℕ
shown_at blocks groups k = read_into (part_at 16 k blocks) (part_at 48 k groups)

-- the groups after n blocks are read, one after the other
unfoldable pub shown_of : List ℕ → List ℕ → ℕ → List ℕ
shown_of blocks groups n = joined (shown_at blocks groups) n

-- the first refusal in a list and its place, counted from k; refusal 0 and the place behind the list where there is none
unfoldable pub first_from : ℕ → List ℕ → Row
first_from k [] = record { refusal = 0; at = k }
first_from k (r ∷ rs) = pick (eqb r 0) (first_from (suc k) rs) (record { refusal = r; at = k })

-- the answer for blocks with these refusals
unfoldable pub first_of : List ℕ → Row
first_of refusals = first_from 0 refusals

-- for n blocks that are measured
abbrev pub measured_row_of : List ℕ → List ℕ → ℕ → Row
measured_row_of groups blocks n = first_of (map (λ (k : ℕ). (measured_at groups blocks k).refusal) (up_from 0 n))

-- for n blocks that are read
abbrev pub read_row_of : List ℕ → List ℕ → ℕ → Row
read_row_of blocks groups n = first_of (map (refusal_at blocks groups) (up_from 0 n))

-- an answer with the refusal of one block more
unfoldable pub further : Row → ℕ → Row
further row r =
    pick (eqb row.refusal 0)
    (pick (eqb r 0) (record { refusal = 0; at = row.at + 1 }) (record { refusal = r; at = row.at }))
    row

-- what an answer says of a list of refusals
pub record FirstRefusal (row : Row) (refusals : List ℕ) : Type 0 where
  -- its refusal is the one at its place, and 0 behind the list
  pub own : row.refusal ≡ get_or refusals row.at 0
  -- those before are 0
  pub passed : (k : ℕ) → k < row.at → get_or refusals k 0 ≡ 0
  -- the place is in the list, where the refusal is not 0, or just behind it
  pub within : row.at ≤ length refusals
  pub declined : row.at < length refusals → row.refusal ≡ 0 → ⊥

-- the answer is the first refusal
abbrev pub RowIsFirst : Type 0
RowIsFirst = (refusals : List ℕ) → FirstRefusal (first_of refusals) refusals

-- measured against the pixels that it shows, a row has no error, and is declined where reading it was
abbrev pub ShownExactly : Type 0
ShownExactly =
    (blocks groups : List ℕ) (n : ℕ) → length groups ≡ 48 * n →
    (errors_of (shown_of blocks groups n) blocks n ≡ replicate n 0)
    × (measured_row_of (shown_of blocks groups n) blocks n ≡ read_row_of blocks groups n)
