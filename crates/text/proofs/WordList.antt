-- Laws of the words of a line.
use Prim.Native.Nat.{ℕ, zero, suc, ◌+◌, ◌-◌, ◌<◌, ◌≤◌}
use native.Mathlib.Numerals.{add-one, one-add}
use native.Mathlib.Omega.{arith}
use mathlib.Core.Path.{◌≡◌, refl, ap}
use mathlib.Core.Bool.{Bool, true, false, cond}
use mathlib.Core.List.{List, [], ◌∷◌}
use lib.Dec.{eqb, leb, leb-suc-zero, leb-suc-suc}
use lib.ListN.{length, take, drop, length-drop}
use lib.Seq.{take_all}
use borrow.Author.Tests.{le-leb}
use Rattle.std.specs.Prelude.{not, if◌then◌else◌, nat_lt, position, Some, None}
use Rattle.std.specs.List.{prefix_len, slice_get}
use Rattle.std.proofs.lemmas.Bool.Decides.{nat_tests}
use Rattle.std.specs.Option.{unwrap_or}
use Rattle.lists.specs.Tests.{pick}
use Rattle.text.specs.Words.{words_in, in_word, first_word, word_from, word_of, lengthen, line_words}

-- a line without a 0 byte has no word
none_left : (line : List ℕ) → length line ≤ prefix_len in_word line → line_words line ≡ []
none_left [] h = refl
none_left (b ∷ bs) h = go (eqb b 0) h (none_left bs)
  where
    go : (t : Bool) → suc (length bs) ≤ (if not t then 1 + prefix_len in_word bs else 0) →
        (length bs ≤ prefix_len in_word bs → line_words bs ≡ []) →
        pick t ([] ∷ line_words bs) (lengthen b (line_words bs)) ≡ []
    go true l ih = absurd (omega arith)
    go false l ih = rw (ih (omega arith))

-- the word at the front of any other, and those behind it
first_word_of : (line : List ℕ) → prefix_len in_word line < length line →
    line_words line ≡ first_word line ∷ line_words (drop (prefix_len in_word line + 1) line)
first_word_of [] h = absurd (omega arith)
first_word_of (b ∷ bs) h = go (eqb b 0) h (first_word_of bs)
  where
    go : (t : Bool) → (if not t then 1 + prefix_len in_word bs else 0) < suc (length bs) →
        (prefix_len in_word bs < length bs → line_words bs ≡ first_word bs ∷ line_words (drop (prefix_len in_word bs + 1) bs)) →
        pick t ([] ∷ line_words bs) (lengthen b (line_words bs))
        ≡ take (if not t then 1 + prefix_len in_word bs else 0) (b ∷ bs)
        ∷ line_words (drop ((if not t then 1 + prefix_len in_word bs else 0) + 1) (b ∷ bs))
    go true l ih = refl
    go false l ih = rw (ih (omega arith), one-add, add-one, add-one)

-- as the place of the first 0 byte tells it
pub words_none : (line : List ℕ) → position (λ b. eqb b 0) line ≡ None → line_words line ≡ []
words_none line e = go (nat_lt (prefix_len in_word line) (length line)) refl e
  where
    go : (t : Bool) → nat_lt (prefix_len in_word line) (length line) ≡ t → cond t (Some (prefix_len in_word line)) None ≡ None → line_words line ≡ []
    go true h l = cc
    go false h l = none_left line (grind (arith, nat_tests))

-- that place is the length of the first word
word_ends : (line : List ℕ) (n : ℕ) → position (λ b. eqb b 0) line ≡ Some n → (n ≡ prefix_len in_word line) × (n < length line)
word_ends line n e = go (nat_lt (prefix_len in_word line) (length line)) refl e
  where
    go : (t : Bool) → nat_lt (prefix_len in_word line) (length line) ≡ t → cond t (Some (prefix_len in_word line)) None ≡ Some n →
        (n ≡ prefix_len in_word line) × (n < length line)
    go true h l = let same : n ≡ prefix_len in_word line = cc in (same, grind (arith, nat_tests))
    go false h l = cc

-- the words of a part of a line that starts behind the word's 0 byte and ends with the line
pub words_first : (line : List ℕ) (n : ℕ) → position (λ b. eqb b 0) line ≡ Some n →
    line_words line ≡ take n line ∷ line_words (take (length line - (n + 1)) (drop (n + 1) line))
words_first line n e =
    let ends = word_ends line n e in
    let rest : length (drop (n + 1) line) ≤ length line - (n + 1) = omega (arith, length-drop (n + 1) line) in
    rw (take_all (length line - (n + 1)) (drop (n + 1) line) rest, ends.0) (first_word_of line (omega (arith, ends.0, ends.1)))

-- they are fewer
pub words_fewer : (line : List ℕ) (n : ℕ) → position (λ b. eqb b 0) line ≡ Some n →
    length (line_words (take (length line - (n + 1)) (drop (n + 1) line))) < length (line_words line)
words_fewer line n e = rw (words_first line n e) (omega arith)

-- their number is that of the 0 bytes
pub words_counted : (line : List ℕ) → length (line_words line) ≡ words_in line
words_counted [] = refl
words_counted (b ∷ bs) = go (eqb b 0) (line_words bs) (words_counted bs)
  where
    go : (t : Bool) (ws : List (List ℕ)) → length ws ≡ words_in bs →
        length (pick t ([] ∷ ws) (lengthen b ws)) ≡ pick t (suc (words_in bs)) (words_in bs)
    go true ws ih = ap suc ih
    go false [] ih = ih
    go false (w ∷ ws) ih = ih

-- word k behind a byte, by whether that is 0
abbrev word_from_by : Bool → ℕ → List ℕ → ℕ → List ℕ
word_from_by t b bs zero = take (if not t then 1 + prefix_len in_word bs else 0) (b ∷ bs)
word_from_by t b bs (suc k) = pick t (word_from bs k) (word_from bs (suc k))

-- the one at a place behind a byte
listed : (b : ℕ) (bs : List ℕ) (t : Bool) (ws : List (List ℕ)) → line_words bs ≡ ws → (k : ℕ) → length ws ≡ words_in bs →
    ((j : ℕ) → unwrap_or (slice_get (line_words bs) j) [] ≡ pick (leb (words_in bs) j) [] (word_from bs j)) →
    unwrap_or (slice_get (pick t ([] ∷ ws) (lengthen b ws)) k) []
    ≡ pick (leb (pick t (suc (words_in bs)) (words_in bs)) k) [] (word_from_by t b bs k)
listed b bs true ws e zero n ih = rw leb-suc-zero
listed b bs true ws e (suc k) n ih = rw leb-suc-suc (rw e at (ih k))
listed b bs false [] e k n ih = rw (← n, le-leb 0 k (omega arith))
listed b bs false (w ∷ ws) e zero n ih =
    let some = leb-suc-zero (length ws) in
    let same : w ≡ first_word bs = rw (e, ← n, some) at (ih 0) in
    rw (← n, some, one-add) (ap (λ v. b ∷ v) same)
listed b bs false (w ∷ ws) e (suc k) n ih = rw e at (ih (suc k))

-- and the one at a place is the word of that number
pub word_listed : (line : List ℕ) (k : ℕ) → unwrap_or (slice_get (line_words line) k) [] ≡ word_of line k
unfolding word_of
word_listed [] k = rw (le-leb 0 k (omega arith))
word_listed (b ∷ bs) zero = listed b bs (eqb b 0) (line_words bs) refl zero (words_counted bs) (word_listed bs)
word_listed (b ∷ bs) (suc k) = listed b bs (eqb b 0) (line_words bs) refl (suc k) (words_counted bs) (word_listed bs)
