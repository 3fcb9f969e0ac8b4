-- Laws of the first refusal in a row of blocks.
use Prim.Native.Nat.{ℕ, zero, suc, ◌+◌, ◌<◌}
use native.Mathlib.Numerals.{add-one}
use native.Mathlib.Omega.{arith}
use mathlib.Core.Path.{◌≡◌, refl, sym, ap, ◌∙◌}
use mathlib.Core.Bool.{Bool, true, false}
use mathlib.Core.List.{List, [], ◌∷◌, ◌++◌, map}
use lib.Dec.{eqb}
use lib.ListN.{length, get_or, length-map, get_or-eq_default}
use borrow.Author.Tests.{eqb-true, eqb-false, ne_eqb}
use native.Mathlib.Nat.{eq-or-lt_of_le}
use mathlib.Core.Logic.{inl, inr}
use Rattle.std.proofs.Common.{Result, Ok, Err, IfErr}
use Rattle.std.specs.Result.{result_and, result_unwrap_or}
use Rattle.bptc_block.specs.declared.Reading.{Reading}
use Rattle.bptc_block.specs.Answers.{measured, block_read}
use Rattle.refusals.specs.declared.Refusal.{Refusal}
use Rattle.refusals.specs.Numbers.{number_of}
use Rattle.refusals.proofs.Numbers.{some_number}
use Rattle.figures.specs.declared.row.Declined.{Declined}
use Rattle.lists.specs.Rows.{up_from}
use Rattle.lists.specs.Tests.{pick}
use Rattle.lists.proofs.Rows.{each-suc, length-up_from}
use Rattle.lists.proofs.Tests.{pick_elim, pick-map}
use Rattle.figures.specs.Row.{Row, row_in, refusal_in, first_from, first_of, further, FirstRefusal, RowIsFirst}

-- one place later
abbrev later : Row → Row
later row = record { refusal = row.refusal; at = suc row.at }

-- one refusal more at the end
first_next : (k : ℕ) (rs : List ℕ) (r : ℕ) → first_from k (rs ++ (r ∷ [])) ≡ further (first_from k rs) r
unfolding first_from further
first_next k [] r = rw add-one
first_next k (x ∷ rs) r = go (eqb x 0) refl (first_next (suc k) rs r)
  where
    go : (t : Bool) → eqb x 0 ≡ t → first_from (suc k) (rs ++ (r ∷ [])) ≡ further (first_from (suc k) rs) r →
        pick t (first_from (suc k) (rs ++ (r ∷ []))) (record { refusal = x; at = k })
        ≡ further (pick t (first_from (suc k) rs) (record { refusal = x; at = k })) r
    go true e tail = tail
    go false e tail = rw e

-- counted from one place later
first-later : (k : ℕ) (rs : List ℕ) → first_from (suc k) rs ≡ later (first_from k rs)
unfolding first_from
first-later k [] = refl
first-later k (x ∷ rs) =
    rw (first-later (suc k) rs) (sym (pick-map later (eqb x 0) (first_from (suc k) rs) (record { refusal = x; at = k })))

-- behind a 0
behind : (row : Row) (x : ℕ) (rs : List ℕ) → x ≡ 0 → FirstRefusal row rs → FirstRefusal (later row) (x ∷ rs)
behind row x rs z h = record {
  own = h.own;
  passed = go;
  within = omega (arith, h.within);
  declined = λ l. h.declined (omega arith);
}
  where
    go : (k : ℕ) → k < suc row.at → get_or (x ∷ rs) k 0 ≡ 0
    go zero l = z
    go (suc k) l = h.passed k (omega arith)

-- it is the first
pub row_is_first : RowIsFirst
unfolding first_of first_from
row_is_first [] = record {
  own = refl;
  passed = λ k l. refl;
  within = omega arith;
  declined = λ l. absurd (omega arith);
}
row_is_first (x ∷ rs) =
    pick_elim (λ (row : Row). FirstRefusal row (x ∷ rs)) (eqb x 0)
    (λ t. rw (first-later 0 rs) (behind (first_from 0 rs) x rs (eqb-true x 0 t) (row_is_first rs)))
    (λ t. record {
      own = refl;
      passed = λ k l. absurd (omega arith);
      within = omega arith;
      declined = λ l. eqb-false x 0 t;
    })

-- one block more: a refusal stays, and where there is none the block decides
pub stays : (n r : ℕ) (d : Declined) → row_in (n + 1) (Err d) ≡ further (row_in n (Err d)) r
unfolding further
stays n r d = rw (ne_eqb (number_of d.refusal) 0 (some_number d.refusal))

pub first_declined : (n : ℕ) (r : Refusal) → row_in (n + 1) (Err (record { refusal = r; at = n })) ≡ further (row_in n (Ok tt)) (number_of r)
unfolding further
first_declined n r = rw (ne_eqb (number_of r) 0 (some_number r))

pub first_passed : (n : ℕ) → row_in (n + 1) (Ok tt) ≡ further (row_in n (Ok tt)) 0
unfolding further
first_passed n = refl

-- one block more that is not declined
pub passed_on : (row : Result (Unit {0}) Declined) (n : ℕ) → row_in (n + 1) row ≡ further (row_in n row) 0
passed_on (Ok done) n = first_passed n
passed_on (Err d) n = stays n 0 d

-- and one that is
pub declined_on : (row : Result (Unit {0}) Declined) (n : ℕ) (r : Refusal) →
    row_in (n + 1) (result_and row (Err (record { refusal = r; at = n }))) ≡ further (row_in n row) (number_of r)
declined_on (Ok done) n r = first_declined n r
declined_on (Err d) n r = stays n (number_of r) d

-- the block that an answer declines is one of those measured or read
pub row_inside : (refusals : List ℕ) (n : ℕ) (row : Result (Unit {0}) Declined) → length refusals ≡ n → row_in n row ≡ first_of refusals →
    IfErr row (λ d. d.at < n)
row_inside refusals n (Ok done) h e = tt
row_inside refusals n (Err d) h e =
    let f : FirstRefusal (first_of refusals) refusals = row_is_first refusals in
    let at : d.at ≡ (first_of refusals).at = ap (λ (row : Row). row.at) e in
    elim (eq-or-lt_of_le f.within) [
      | inl behind ↦
          let none : get_or refusals (first_of refusals).at 0 ≡ 0 = get_or-eq_default refusals 0 (omega (arith, behind)) in
          absurd (some_number d.refusal (ap (λ (row : Row). row.refusal) e ∙ f.own ∙ none))
      | inr less ↦ omega (arith, less)
    ]

-- the answer for no blocks
pub row_none : row_in 0 (Ok tt) ≡ first_of []
unfolding first_of first_from
row_none = refl

module _ (refusal : ℕ → ℕ) where
  -- the answer for one block more
  pub row_next : (n r : ℕ) (row next : Result (Unit {0}) Declined) → row_in n row ≡ first_of (map refusal (up_from 0 n)) → r ≡ refusal n →
      row_in (n + 1) next ≡ further (row_in n row) r → row_in (n + 1) next ≡ first_of (map refusal (up_from 0 (n + 1)))
  unfolding first_of
  row_next n r row next before own e =
      e ∙ rw (add-one, before, own) (sym (ap (first_from 0) (each-suc refusal n) ∙ first_next 0 (map refusal (up_from 0 n)) (refusal n)))

  -- for all n blocks it declines one of them
  pub declined_inside : (k n : ℕ) (row : Result (Unit {0}) Declined) → k ≡ n → row_in k row ≡ first_of (map refusal (up_from 0 k)) →
      IfErr row (λ d. d.at < n)
  declined_inside k n row same e =
      rw (← same) (row_inside (map refusal (up_from 0 k)) k row (simp (length-map, length-up_from)) e)

-- the number and the error of a measured block
pub measured_refusal : (r : Result ℕ Refusal) → refusal_in r ≡ (measured r).refusal
measured_refusal (Ok error) = refl
measured_refusal (Err refusal) = refl

pub measured_error : (r : Result ℕ Refusal) → result_unwrap_or r 0 ≡ (measured r).error
measured_error (Ok error) = refl
measured_error (Err refusal) = refl

-- the number of a block that is read
pub read_refusal : (r : Result Reading Refusal) → refusal_in r ≡ (block_read r).refusal
read_refusal (Ok reading) = refl
read_refusal (Err refusal) = refl
