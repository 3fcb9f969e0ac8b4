-- `choice_columns::sums::column_sums` meets its contract. The invariant: the sums and words over the pixels from i on.
use Rattle.std.proofs.Common.{◌≡◌, ℕ, ◌-◌, ◌/◌, ◌%◌, eqb, List, map}
use Rattle.lists.specs.Tests.{pick}
use Rattle.lists.specs.Rows.{up_from}
use Rattle.lists.specs.Digits.{bit}
use Rattle.closest.proofs.Joining.{joined_from}
use Rattle.choice_columns.specs.Columns.{column_at}
use Rattle.choice_columns.proofs.FourSums.{sum_from}
use Rattle.choice_columns.proofs.sums.column_sums.Given as goal

-- the raised distance of pixel i in column c
abbrev pub apart : List (List ℕ) → ℕ → ℕ → ℕ
apart columns c i = column_at columns c i / 8

-- the same where the pixel is in subset 1
abbrev pub of_second : List (List ℕ) → ℕ → ℕ → ℕ → ℕ
of_second columns mask c i = pick (eqb (bit mask i) 1) (apart columns c i) 0

-- its index
abbrev pub index : List (List ℕ) → ℕ → ℕ → ℕ
index columns c i = column_at columns c i % 4

abbrev pub invariant-loop-i : goal.invariant-loop-i
invariant-loop-i l =
    let i = l.i in
    (l.all ≡ map (λ (c : ℕ). sum_from (apart l.columns c) i) (up_from 0 4))
    × (l.second ≡ map (λ (c : ℕ). sum_from (of_second l.columns l.mask c) i) (up_from 0 4))
    × (l.words ≡ map (λ (c : ℕ). joined_from 2 (index l.columns c) i (16 - i)) (up_from 0 4))
