-- The header that is written for a picture is read again.
use Prim.Native.Nat.{ℕ, ◌+◌, ◌^◌, ◌<◌, ◌≤◌}
use native.Mathlib.Numerals.{one-add}
use native.Mathlib.Omega.{arith}
use mathlib.Core.Path.{◌≡◌, refl, sym, ap, ap₂, ◌∙◌}
use mathlib.Core.Bool.{true, false}
use mathlib.Core.List.{List, [], ◌∷◌, ◌++◌, append_assoc, append-nil}
use lib.ListN.{length, get_or, drop, length-append}
use lib.Seq.{drop-append_seam, take-append_seam, get_or-append_seam}
use borrow.Author.Tests.{eq-eqb, ne_eqb, lt-ltb, le-ltb, le-leb, lt-leb}
use Rattle.std.specs.Prelude.{Some, Ok}
use Rattle.std.specs.Char.{is_ascii_digit}
use Rattle.std.proofs.lemmas.List.Folds.{prefix_len-append}
use Rattle.std.proofs.lemmas.Str.Parse.{digit_at}
use Rattle.text.specs.declared.ppm.HeaderError.{HeaderError}
use Rattle.text.specs.declared.ppm.HeaderError.TheVariants.{NoWidth, NoHeight, NoMaxval, WidthOutside, HeightOutside, OtherMaxval}
use Rattle.text.specs.Line.{decimal_of}
use Rattle.text.specs.Decimal.{digits_in}
use Rattle.text.specs.Ppm.{in_gap, in_comment, gap_in, small_number, field_in, size_fits}
use Rattle.text.specs.Ppm.{starts_p6, starts_crlf, size_in, maxval_in, header_of, header_text}
use Rattle.text.proofs.DecimalText.{AllDigits, numerals, decimal_digits, decimal-some, decimal-length, number-decimal}

-- a digit ends a gap
digit_stops : (b : ℕ) → 48 ≤ b → in_gap false b ≡ false
digit_stops b h =
    let mark : b ≡ 35 → ⊥ = λ e. omega arith in
    let space : b ≡ 32 → ⊥ = λ e. omega arith in
    let low : 9 ≤ b = omega arith in
    let high : 13 < b = omega arith in
    rw (ne_eqb b 35 mark, ne_eqb b 32 space, le-ltb b 9 low, lt-leb b 13 high)

-- a text of digits has no gap in front
gap_digits : (xs rest : List ℕ) → AllDigits xs → 0 < length xs → gap_in false (xs ++ rest) ≡ 0
gap_digits [] rest e h = absurd (omega arith)
gap_digits (x ∷ xs) rest e h = rw (digit_stops x (digit_at (x ∷ xs) 0 (numerals.to (x ∷ xs) e) h).0)

-- a number of at most nine digits is read from its text
small_decimal : (n : ℕ) → n < 10 ^ 9 → small_number (decimal_of n) ≡ Some n
unfolding small_number
small_decimal n h =
    let small : n < 2 ^ 64 = omega arith in
    rw (le-ltb 9 (length (decimal_of n)) (decimal-length n small 9 (omega arith) h)) (number-decimal n (omega arith))

-- a number behind one white space and before a byte that is no digit
module _ (rest : List ℕ) (s n e : ℕ)
    (space : in_gap false s ≡ true) (out : in_comment false s ≡ false) (other : is_ascii_digit e ≡ false) (small : n < 10 ^ 9) where
  -- it fits 64 bits
  fits : n < 2 ^ 64
  fits = omega arith

  -- the gap is the white space
  gap_one : gap_in false (s ∷ (decimal_of n ++ (e ∷ rest))) ≡ 1
  gap_one = rw (space, out, gap_digits (decimal_of n) (e ∷ rest) (decimal_digits n fits) (decimal-some n fits))

  -- the digits behind it are the number's
  digits-number : digits_in (decimal_of n ++ (e ∷ rest)) ≡ length (decimal_of n)
  digits-number =
      rw (prefix_len-append is_ascii_digit (decimal_of n) (e ∷ rest), eq-eqb _ _ (decimal_digits n fits), other) (omega arith)

  -- it is the number that is read there
  field-decimal : (bytes : List ℕ) (missing outside : HeaderError) → bytes ≡ s ∷ (decimal_of n ++ (e ∷ rest)) →
      field_in bytes missing outside ≡ Ok (record { value = n; len = length (s ∷ decimal_of n) })
  unfolding field_in
  field-decimal bytes missing outside same =
      rw (
        same,
        gap_one,
        digits-number,
        lt-ltb 0 (length (decimal_of n)) (decimal-some n fits),
        take-append_seam (decimal_of n) (e ∷ rest),
        small_decimal n small,
        one-add,
      )

-- a size from 1 to 16384
size_fits_lem : (n : ℕ) → 1 ≤ n → n ≤ 16384 → size_fits n ≡ true
size_fits_lem n low high = rw (le-ltb n 1 low, le-leb n 16384 high)

-- the text of the maxval
maxval_text : decimal_of 255 ≡ 50 ∷ 53 ∷ 53 ∷ []
unfolding decimal_of
maxval_text = refl

-- the header up to each number
abbrev to_width : List ℕ
to_width = 80 ∷ 54 ∷ []

abbrev to_height : ℕ → List ℕ
to_height w = to_width ++ (10 ∷ decimal_of w)

abbrev to_maxval : ℕ → ℕ → List ℕ
to_maxval w h = to_height w ++ (32 ∷ decimal_of h)

-- and up to its last byte
abbrev to_end : ℕ → ℕ → List ℕ
to_end w h = to_maxval w h ++ (10 ∷ decimal_of 255)

-- six texts, one behind the other
regroup : (a b c d e f : List ℕ) → a ++ b ++ c ++ d ++ e ++ f ≡ a ++ (b ++ (c ++ (d ++ (e ++ f))))
regroup a b c d e f = simp append_assoc

module _ (w h : ℕ) where
  -- a file's bytes, parted before each number
  module _ (rest : List ℕ) where
    by_width :
        header_text w h ++ rest ≡ to_width ++ (10 ∷ (decimal_of w ++ (32 ∷ (decimal_of h ++ (10 ∷ (decimal_of 255 ++ (10 ∷ rest)))))))
    unfolding header_text
    by_width = rw maxval_text (regroup (80 ∷ 54 ∷ 10 ∷ []) (decimal_of w) (32 ∷ []) (decimal_of h) (10 ∷ 50 ∷ 53 ∷ 53 ∷ 10 ∷ []) rest)

    by_height : header_text w h ++ rest ≡ to_height w ++ (32 ∷ (decimal_of h ++ (10 ∷ (decimal_of 255 ++ (10 ∷ rest)))))
    by_height = by_width ∙ sym (append_assoc to_width (10 ∷ decimal_of w) _)

    by_maxval : header_text w h ++ rest ≡ to_maxval w h ++ (10 ∷ (decimal_of 255 ++ (10 ∷ rest)))
    by_maxval = by_height ∙ sym (append_assoc (to_height w) (32 ∷ decimal_of h) _)

    -- and before the last byte of the header
    by_end : header_text w h ++ rest ≡ to_end w h ++ (10 ∷ rest)
    by_end = by_maxval ∙ sym (append_assoc (to_maxval w h) (10 ∷ decimal_of 255) (10 ∷ rest))

  -- its length
  header-length : length (header_text w h) ≡ length (to_end w h) + 1
  header-length = ap length (sym (append-nil (header_text w h)) ∙ by_end []) ∙ length-append (to_end w h) (10 ∷ [])

-- what is written for a picture of any size is read again, whatever follows
pub header_read : (w h : ℕ) (rest : List ℕ) → 1 ≤ w → w ≤ 16384 → 1 ≤ h → h ≤ 16384 →
    header_of (header_text w h ++ rest) ≡ Ok (record { width = w; height = h; pixels = length (header_text w h); crlf = false })
unfolding header_of size_in maxval_in
header_read w h rest wide narrow high low =
    let bytes = header_text w h ++ rest in
    let named : starts_p6 bytes ≡ true = rw (by_width w h rest) in
    let to_h : 2 + length (10 ∷ decimal_of w) ≡ length (to_height w) = omega arith in
    let to_m : length (to_height w) + length (32 ∷ decimal_of h) ≡ length (to_maxval w h) = sym (length-append (to_height w) (32 ∷ decimal_of h)) in
    let first = field-decimal _ 10 w 32 refl refl refl (omega arith) (drop 2 bytes) NoWidth WidthOutside (ap (drop 2) (by_width w h rest)) in
    let second = field-decimal _ 32 h 10 refl refl refl (omega arith) (drop (length (to_height w)) bytes) NoHeight HeightOutside
    (ap (drop (length (to_height w))) (by_height w h rest) ∙ drop-append_seam (to_height w) _) in
    let behind : drop (length (to_maxval w h)) bytes ≡ 10 ∷ (decimal_of 255 ++ (10 ∷ rest)) =
    rw (by_maxval w h rest) (drop-append_seam (to_maxval w h) _) in
    let third = field-decimal rest 10 255 10 refl refl refl (omega arith) (drop (length (to_maxval w h)) bytes) NoMaxval OtherMaxval behind in
    let last : get_or (drop (length (to_maxval w h)) bytes) (length (10 ∷ decimal_of 255)) 0 ≡ 10 =
    rw behind (get_or-append_seam (10 ∷ decimal_of 255) 10 rest 0) in
    let all : length (to_maxval w h) + length (10 ∷ decimal_of 255) + 1 ≡ length (header_text w h) =
    omega (arith, header-length w h, length-append (to_maxval w h) (10 ∷ decimal_of 255)) in
    let to_e : length (to_maxval w h) + length (10 ∷ decimal_of 255) ≡ length (to_end w h) =
    sym (length-append (to_maxval w h) (10 ∷ decimal_of 255)) in
    let feed : starts_crlf (drop (length (to_maxval w h) + length (10 ∷ decimal_of 255)) bytes) ≡ false =
    rw (to_e, by_end w h rest, drop-append_seam (to_end w h) (10 ∷ rest)) refl in
    rw (named, first, size_fits_lem w wide narrow, to_h, second, size_fits_lem h high low, to_m, third, last)
    (ap₂ (λ n c. Ok (record { width = w; height = h; pixels = n; crlf = c })) all feed)
