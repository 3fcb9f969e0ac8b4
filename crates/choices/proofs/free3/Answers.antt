-- `choices::free3` meets its contract: each subset keeps the first column of least sum.
use Rattle.std.proofs.Common.{◌≡◌, ℕ, ◌+◌, ◌-◌, ◌%◌, ◌^◌, ◌≤◌, ◌<◌, List, [], ◌∷◌, map, get_or, ap, ◌∙◌, arith}
use Rattle.lists.specs.Rows.{up_from, over_pixels}
use Rattle.bptc.specs.declared.Rgb.{Rgb}
use Rattle.bptc.specs.Mode.{mode3}
use Rattle.bptc.specs.Internal.Masks.{mask_of}
use Rattle.bptc.specs.Internal.Colour.{colours_of}
use Rattle.bptc.proofs.Modes.{is_mode3}
use Rattle.lists.proofs.Rows.{get_or-each, each_same}
use Rattle.closest.specs.Found.{indexes_in, biased_in, over_second}
use Rattle.choices.specs.Choices.{column_bits}
use Rattle.bptc.proofs.PartitionRule.{entry_ones}
use Rattle.choices.proofs.Subsets.{over-all}
use Rattle.choices.proofs.Picking.{all_small}
use Rattle.choices.proofs.ChoicePicking.{four-left, column_sum, free3-picked}
use Rattle.choices.proofs.free3.Goals.{After-choices-s}
use Rattle.choices.proofs.free3.Goals as goal

-- the query's parts
abbrev part : After-choices-s → ℕ
part c = c.args.query.now.partition.number

abbrev ends : After-choices-s → List Rgb
ends c = c.args.query.now.ends.stored

abbrev pixels : After-choices-s → List Rgb
pixels c = colours_of c.args.query.now.pixels.now

-- the sum of a subset in a column
abbrev sum_of : After-choices-s → ℕ → ℕ → ℕ
sum_of c = column_sum (part c) (ends c) c.args.query.now.pixels.now c.args.query.now.long

-- the sums of all pixels are those of both subsets
all_are : (c : After-choices-s) → c.choices-s.result.all ≡ map (λ (k : ℕ). sum_of c 0 k + sum_of c 1 k) (up_from 0 4)
all_are c =
    c.choices-s.ensures.all
    ∙ ap (λ (mask : ℕ). map (λ (k : ℕ). over_pixels (biased_in mode3 (ends c) (column_bits k) mask (pixels c))) (up_from 0 4)) (c.from.ensures ∙ c.mask.ensures)
    ∙ each_same 0 _ _ 4 (λ k h. over-all mode3 (part c) (ends c) (pixels c) (column_bits k))

-- those of subset 1
ones_are : (c : After-choices-s) → c.choices-s.result.second ≡ map (sum_of c 1) (up_from 0 4)
ones_are c =
    c.choices-s.ensures.second
    ∙ ap (λ (mask : ℕ). map (λ (k : ℕ). over_second mask (biased_in mode3 (ends c) (column_bits k) mask (pixels c))) (up_from 0 4)) (c.from.ensures ∙ c.mask.ensures)

-- the words are the columns' indices
words_are : (c : After-choices-s) → c.choices-s.result.words ≡ map (λ (k : ℕ). indexes_in mode3 (ends c) (column_bits k) (mask_of (part c)) (pixels c)) (up_from 0 4)
words_are c =
    c.choices-s.ensures.words
    ∙ ap (λ (mask : ℕ). map (λ (k : ℕ). indexes_in mode3 (ends c) (column_bits k) mask (pixels c)) (up_from 0 4)) (c.from.ensures ∙ c.mask.ensures)

-- the sums of subset 0 are what is left of all without subset 1
zeros_are : (c : After-choices-s) →
    let x = c.choices-s.result.all in
    let y = c.choices-s.result.second in
    (get_or x 0 0 - get_or y 0 0) ∷ ((get_or x 1 0 - get_or y 1 0) ∷ ((get_or x 2 0 - get_or y 2 0) ∷ ((get_or x 3 0 - get_or y 3 0) ∷ []))) ≡ map (sum_of c 0) (up_from 0 4)
zeros_are c = four-left (sum_of c 0) (sum_of c 1) _ _ (all_are c) (ones_are c)

-- subset 1 has no more than all
less : (c : After-choices-s) (k : ℕ) → k < 4 → get_or c.choices-s.result.second k 0 ≤ get_or c.choices-s.result.all k 0
less c k h = rw (ones_are c, all_are c, get_or-each 0 (sum_of c 1) 4 k h, get_or-each 0 (λ (k : ℕ). sum_of c 0 k + sum_of c 1 k) 4 k h) (omega arith)

-- the sums of both subsets fit
sums_small : (c : After-choices-s) → (i j : ℕ) → i < 4 → j < 4 →
    let x = c.choices-s.result.all in
    let y = c.choices-s.result.second in
    get_or ((get_or x 0 0 - get_or y 0 0) ∷ ((get_or x 1 0 - get_or y 1 0) ∷ ((get_or x 2 0 - get_or y 2 0) ∷ ((get_or x 3 0 - get_or y 3 0) ∷ [])))) i 0 + get_or y j 0 < 2 ^ 32
sums_small c i j h l =
    let most : (k : ℕ) → sum_of c 0 k + sum_of c 1 k ≤ 6242400 =
    λ k. omega (arith, all_small mode3 is_mode3 (part c) (ends c) c.args.query.now.ends.within c.args.query.now.pixels.now c.args.query.now.bytes (column_bits k) (mask_of (part c)), over-all mode3 (part c) (ends c) (pixels c) (column_bits k)) in
    rw (zeros_are c, ones_are c, get_or-each 0 (sum_of c 0) 4 i h, get_or-each 0 (sum_of c 1) 4 j l) (omega (arith, most i, most j))

pub overflow_sub-all : goal.overflow_sub-all
overflow_sub-all c = omega (arith, less (goal.at.overflow_sub-all c).After-choices-s 0 (omega arith))

pub overflow_sub-all-2 : goal.overflow_sub-all-2
overflow_sub-all-2 c = omega (arith, less (goal.at.overflow_sub-all-2 c).After-choices-s 1 (omega arith))

pub overflow_sub-all-3 : goal.overflow_sub-all-3
overflow_sub-all-3 c = omega (arith, less (goal.at.overflow_sub-all-3 c).After-choices-s 2 (omega arith))

pub overflow_sub-all-4 : goal.overflow_sub-all-4
overflow_sub-all-4 c = omega (arith, less (goal.at.overflow_sub-all-4 c).After-choices-s 3 (omega arith))

pub overflow_add-result : goal.overflow_add-result
overflow_add-result c =
    let f = c.best4-f in
    let g = c.best4-g in
    omega (arith, sums_small (goal.at.overflow_add-result c).After-choices-s f.result.at g.result.at f.ensures.four g.ensures.four, f.ensures.sum, g.ensures.sum)

pub returns : goal.returns
returns c =
    let k = (goal.at.returns c).After-choices-s in
    let a = c.args in
    let f = c.best4-f.ensures in
    let g = c.best4-g.ensures in
    let ones = ap (λ (n : ℕ). n % 4294967296) c.entry2.ensures ∙ entry_ones 2 a.query.now.partition.number in
    rw (c.mix.ensures, c.from-first.ensures, c.from-second.ensures, ones, c.bits_of.ensures.0, c.bits_of-2.ensures.0)
    (free3-picked a.query.now.partition.number a.query.now.ends.stored a.query.now.pixels.now a.query.now.long _ _ _ (zeros_are k) (ones_are k) (words_are k) _ _ _ _ f.at f.sum f.four g.at g.sum g.four)
