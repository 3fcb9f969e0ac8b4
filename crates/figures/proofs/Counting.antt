-- Laws of figures: what they say of the errors that are counted.
use Prim.Native.Nat.{ℕ, zero, suc, ◌+◌, ◌≤◌, ◌<◌}
use native.Mathlib.Nat.{le_refl}
use native.Mathlib.Omega.{arith}
use mathlib.Core.Path.{◌≡◌, refl, ◌∙◌}
use mathlib.Core.Bool.{Bool, true, false}
use mathlib.Core.List.{List, [], ◌∷◌, ◌++◌, append-nil, append_assoc}
use lib.Dec.{ltb}
use lib.ListN.{length, get_or, length-append, get_or-append}
use lib.Seq.{get_or-append_seam}
use borrow.Author.Tests.{ltb-true, ltb-false}
use Rattle.lists.specs.Rows.{sum}
use Rattle.lists.specs.Tests.{pick}
use Rattle.figures.specs.declared.Figures.{Figures}
use Rattle.figures.specs.Figures.{none_yet, counted_of, counted_all, FirstWorst, CountsAll, CountsRows}

-- one after the other
pub counts_rows : CountsRows
unfolding counted_all
counts_rows f [] ys = refl
counts_rows f (x ∷ xs) ys = counts_rows (counted_of f x) xs ys

-- how many blocks
many_on : (f : Figures) (es : List ℕ) → (counted_all f es).blocks ≡ f.blocks + length es
unfolding counted_all
many_on f [] = omega arith
many_on f (e ∷ es) = omega (arith, many_on (counted_of f e) es)

-- the sum of the blocks' errors
sum_on : (f : Figures) (es : List ℕ) → (counted_all f es).block_errors ≡ f.block_errors + sum es
unfolding counted_all
sum_on f [] = omega arith
sum_on f (e ∷ es) = omega (arith, sum_on (counted_of f e) es)

-- a bound of a list and of one more
last_le : (xs : List ℕ) (w e k : ℕ) → ((i : ℕ) → get_or xs i 0 ≤ w) → e ≤ w → get_or (xs ++ (e ∷ [])) k 0 ≤ w
last_le [] w e zero h l = l
last_le [] w e (suc k) h l = omega arith
last_le (x ∷ xs) w e zero h l = h 0
last_le (x ∷ xs) w e (suc k) h l = last_le xs w e k (λ i. h (suc i)) l

-- an error that is greater than each before
worse : (done : List ℕ) (w p e : ℕ) → FirstWorst w p done → w < e → FirstWorst e (length done) (done ++ (e ∷ []))
worse done w p e f h = record {
  greatest = λ k. last_le done e e k (λ i. omega (arith, f.greatest i)) (le_refl e);
  held = get_or-append_seam done e [] 0;
  first = λ k l. rw (get_or-append done (e ∷ []) 0 k l) (omega (arith, f.greatest k));
  inside = λ l. rw length-append (omega arith);
  empty = λ z. omega (arith, length-append done (e ∷ []));
}

-- one that is not
as_before : (done : List ℕ) (w p e : ℕ) → FirstWorst w p done → e ≤ w → FirstWorst w p (done ++ (e ∷ []))
as_before [] w p e f h =
    let none : p ≡ 0 = f.empty refl in
    let zero : 0 ≡ w = f.held in
    record {
      greatest = λ k. last_le [] w e k f.greatest h;
      held = rw none (omega arith);
      first = λ k l. absurd (omega arith);
      inside = λ l. omega arith;
      empty = λ z. none;
    }
as_before (x ∷ xs) w p e f h =
    let within : p < length (x ∷ xs) = f.inside (omega arith) in
    record {
      greatest = λ k. last_le (x ∷ xs) w e k f.greatest h;
      held = get_or-append (x ∷ xs) (e ∷ []) 0 p within ∙ f.held;
      first = λ k l. rw (get_or-append (x ∷ xs) (e ∷ []) 0 k (omega arith)) (f.first k l);
      inside = λ l. rw length-append (omega arith);
      empty = λ z. absurd (omega (arith, length-append (x ∷ xs) (e ∷ [])));
    }

-- one error more
worst-next : (done : List ℕ) (w p e : ℕ) → FirstWorst w p done → (t : Bool) → ltb w e ≡ t →
    FirstWorst (pick t e w) (pick t (length done) p) (done ++ (e ∷ []))
worst-next done w p e f true h = worse done w p e f (ltb-true w e h)
worst-next done w p e f false h = as_before done w p e f (ltb-false w e h)

-- a list more
worst_on : (f : Figures) (done es : List ℕ) → f.blocks ≡ length done → FirstWorst f.worst f.place done →
    FirstWorst (counted_all f es).worst (counted_all f es).place (done ++ es)
unfolding counted_all
worst_on f done [] n h = rw append-nil h
worst_on f done (e ∷ es) n h =
    let next = rw (← n) at (worst-next done f.worst f.place e h (ltb f.worst e) refl) in
    rw append_assoc at (worst_on (counted_of f e) (done ++ (e ∷ [])) es (rw length-append (omega arith)) next)

-- from none on
pub counts_all : CountsAll
counts_all es = record {
  many = many_on none_yet es ∙ omega arith;
  summed = sum_on none_yet es ∙ omega arith;
  worst = worst_on none_yet [] es refl (record {
    greatest = λ k. le_refl 0;
    held = refl;
    first = λ k l. absurd (omega arith);
    inside = λ l. absurd (omega arith);
    empty = λ z. refl;
  });
}
