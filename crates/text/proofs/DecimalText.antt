-- Laws of a number's decimal text: it is what std's `Display` writes, it is all digits, and it stands for the number.
use Prim.Native.Nat.{ℕ, suc, ◌+◌, ◌^◌, ◌<◌, ◌≤◌}
use native.Mathlib.Omega.{arith}
use mathlib.Core.Path.{◌≡◌, refl, sym}
use mathlib.Core.Bool.{Bool, true, false}
use mathlib.Core.List.{List, ◌∷◌}
use lib.Dec.{leb, ltb, eqb}
use lib.ListN.{length}
use borrow.Author.Rules.{rules}
use borrow.Author.Tests.{leb-true, le-leb, lt-ltb, le-ltb, eq-eqb, ne_eqb}
use Rattle.std.specs.Prelude.{Option, Some, None, Result, Ok, Err, if◌then◌else◌, ◌&&◌}
use Rattle.std.specs.Int.{IsInRange}
use Rattle.std.specs.Fmt.{decimal}
use Rattle.std.specs.Result.{OkIff, result_ok}
use Rattle.std.specs.Str.Parse.{ParsesUnsigned}
use Rattle.std.specs.Str.{IsUtf8}
use Rattle.std.proofs.lemmas.Str.{IsUtf8-from_ascii}
use Rattle.std.proofs.lemmas.Str.Parse.{IsNumeralModel, numerals_by_fold, parse_digits, digits_value_short}
use Rattle.std.proofs.lemmas.Fmt.{AppendsLastDigit, decimal_from_appends, length-decimal-le, decimal_nonempty, digits_decimal, digits_value-decimal, IsAscii-from_digits}
use Rattle.lists.specs.Tests.{pick}
use Rattle.text.specs.Line.{decimal_in, decimal_of}
use Rattle.text.specs.Decimal.{digits_in, value_from, value_of, number_in}

-- a text that is all digits
abbrev pub AllDigits : List ℕ → Type 0
AllDigits text = digits_in text ≡ length text

-- its first digit, and the others
digit_parts : (b : ℕ) (bs : List ℕ) → AllDigits (b ∷ bs) → IsInRange 48 57 b × AllDigits bs
digit_parts b bs e = go (leb 48 b) (leb b 57) refl refl e
  where
    go : (t u : Bool) → leb 48 b ≡ t → leb b 57 ≡ u → (if t && u then 1 + digits_in bs else 0) ≡ suc (length bs) →
        IsInRange 48 57 b × AllDigits bs
    go true true l h e = ((leb-true _ _ l, leb-true _ _ h), omega arith)
    go true false l h e = absurd (omega arith)
    go false u l h e = absurd (omega arith)

-- one more in front
digit_more : (b : ℕ) (bs : List ℕ) → IsInRange 48 57 b → AllDigits bs → AllDigits (b ∷ bs)
digit_more b bs h e = rw (le-leb _ _ h.0, le-leb _ _ h.1) (omega arith)

-- the texts of digits, and the numbers that they stand for, in std's words
pub numerals : IsNumeralModel AllDigits (value_from 0)
numerals = numerals_by_fold AllDigits (record { empty = refl; parts = digit_parts; more = digit_more }) value_from (search rules)

-- the decimal text of a number is what std writes
pub decimal_written : (n : ℕ) → n < 2 ^ 64 → decimal_of n ≡ decimal n
unfolding decimal_of
decimal_written n h =
    let last : AppendsLastDigit decimal_in = record { one = λ k n l. rw (lt-ltb n 10 l); more = λ k n l. rw (le-ltb n 10 l) } in
    decimal_from_appends decimal_in last 20 n h (length-decimal-le 20 n (omega arith) (omega arith) h)

module _ (n : ℕ) (h : n < 2 ^ 64) where
  -- it is all digits
  pub decimal_digits : AllDigits (decimal_of n)
  decimal_digits = rw (decimal_written n h) (digits_decimal numerals n h)

  -- it is not empty
  pub decimal-some : 0 < length (decimal_of n)
  decimal-some = rw (decimal_written n h) (decimal_nonempty n h)

  -- it has no more digits than the number
  pub decimal-length : (k : ℕ) → 0 < k → n < 10 ^ k → length (decimal_of n) ≤ k
  decimal-length k l m = rw (decimal_written n h) (length-decimal-le k n l m h)

  -- it stands for the number
  pub decimal-value : value_of (decimal_of n) ≡ n
  unfolding value_of
  decimal-value = rw (decimal_written n h) (digits_value-decimal numerals n h)

module _ (text : List ℕ) where
  -- what is longer than eighteen bytes is no number
  pub number_long : 18 < length text → number_in text ≡ None
  unfolding number_in
  number_long h =
      let some : length text ≡ 0 → ⊥ = λ e. omega arith in
      rw (ne_eqb _ _ some, lt-ltb _ _ h)

  -- nor is what is not all digits
  pub number_other : (AllDigits text → ⊥) → number_in text ≡ None
  unfolding number_in
  number_other h = rw (ne_eqb _ _ h) (go (eqb (length text) 0) (ltb 18 (length text)))
    where
      go : (t u : Bool) → pick {A = Option ℕ} t None (pick {A = Option ℕ} u None None) ≡ None
      go true u = refl
      go false true = refl
      go false false = refl

  module _ (all : AllDigits text) where
    -- digits are text
    pub digits_text : IsUtf8 text
    digits_text = IsUtf8-from_ascii text (IsAscii-from_digits text (numerals.to text all))

    -- up to eighteen are the number that they stand for
    module _ (few : length text ≤ 18) where
      pub number_digits : 0 < length text → number_in text ≡ Some (value_of text)
      unfolding number_in
      number_digits h =
          let some : length text ≡ 0 → ⊥ = λ e. omega arith in
          rw (ne_eqb _ _ some, le-ltb _ _ few, eq-eqb _ _ all)

      -- and none of them are no number
      pub number_none : length text ≡ 0 → number_in text ≡ None
      unfolding number_in
      number_none h = rw (eq-eqb _ _ h)

      -- std reads the same
      pub number_parsed : {E : Type 0} (r : Result ℕ E) → ParsesUnsigned 64 10 text r → result_ok r ≡ number_in text
      unfolding value_of
      number_parsed {E} r parsed = go r (parse_digits numerals 64 text r parsed all)
        where
          go : (r : Result ℕ E) → OkIff r ((0 < length text) × (value_from 0 text < 2 ^ 64)) (value_from 0 text) →
              result_ok r ≡ number_in text
          go (Ok x) p = rw (p.1, number_digits p.0.0)
          go (Err e) p =
              let small : value_from 0 text < 10 ^ 18 = digits_value_short numerals text 18 all few in
              let none : 0 < length text → ⊥ = λ h. p (h, omega arith) in
              sym (number_none (omega arith))

-- the number that is read from the decimal text of n is n
pub number-decimal : (n : ℕ) → n < 10 ^ 18 → number_in (decimal_of n) ≡ Some n
number-decimal n h =
    let small : n < 2 ^ 64 = omega arith in
    let few = decimal-length n small 18 (omega arith) h in
    rw (number_digits (decimal_of n) (decimal_digits n small) few (decimal-some n small), decimal-value n small)
