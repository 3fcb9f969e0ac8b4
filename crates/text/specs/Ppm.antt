-- The header of a binary PPM picture, Netpbm's P6.
use Rattle.std.specs.Prelude.{ℕ, suc, ◌+◌, ◌≤◌, Bool, true, false, not, List, [], ◌∷◌, ◌++◌, leb, ltb, eqb, length, take, drop, get_or, Option, None, Some, Result, Ok, Err, codes}
use Rattle.lists.specs.Tests.{pick}
use Rattle.text.specs.declared.ppm.Header.{Header}
use Rattle.text.specs.declared.ppm.HeaderError.{HeaderError}
use Rattle.text.specs.declared.ppm.HeaderError.TheVariants.{NoName, NoWidth, NoHeight, NoMaxval, WidthOutside, HeightOutside, OtherMaxval, NoPixels}
use Rattle.text.specs.declared.ppm.Field.{Field}
use Rattle.text.specs.Line.{decimal_of}
use Rattle.text.specs.Decimal.{digits_in, number_in}

-- whether a byte is white space: a space, or one of the codes 9 to 13
abbrev pub is_space : ℕ → Bool
is_space b = pick (eqb b 32) true (pick (ltb b 9) false (leb b 13))

-- whether a byte belongs to white space and comments, inside a comment or outside
abbrev pub in_gap : Bool → ℕ → Bool
in_gap true b = true
in_gap false b = pick (eqb b 35) true (is_space b)

-- whether the byte behind a byte is inside a comment, which starts with # and ends with a line feed or a carriage return
abbrev pub in_comment : Bool → ℕ → Bool
in_comment true b = pick (eqb b 10) false (not (eqb b 13))
in_comment false b = eqb b 35

-- how many bytes of white space and comments stand at the front, inside a comment or outside
abbrev pub gap_in : Bool → List ℕ → ℕ
gap_in comment [] = 0
gap_in comment (b ∷ bs) = pick (in_gap comment b) (suc (gap_in (in_comment comment b) bs)) 0

-- what comes of a part of the header that is right; a mistake stays
abbrev pub and_then : {A B : Type 0} → Result A HeaderError → (A → Result B HeaderError) → Result B HeaderError
and_then (Ok x) f = f x
and_then (Err e) f = Err e

-- the number of one to nine digits, the most that a number of a header may have
unfoldable pub small_number : List ℕ → Option ℕ
small_number text = pick (ltb 9 (length text)) None (number_in text)

-- a number of a header and how many bytes it takes, or the mistake of a number that has more than nine digits
abbrev pub field_of : Option ℕ → ℕ → HeaderError → Result Field HeaderError
field_of None len outside = Err outside
field_of (Some n) len outside = Ok (record { value = n; len = len })

-- the number behind a gap by how many digits stand there: it is missing where it lacks either
abbrev pub field_behind : List ℕ → ℕ → ℕ → HeaderError → HeaderError → Result Field HeaderError
field_behind bs gap count missing outside =
    pick (ltb 0 gap) (pick (ltb 0 count) (field_of (small_number (take count (drop gap bs))) (gap + count) outside) (Err missing)) (Err missing)

-- the number at the front, with its gap
unfoldable pub field_in : List ℕ → HeaderError → HeaderError → Result Field HeaderError
field_in bs missing outside = field_behind bs (gap_in false bs) (digits_in (drop (gap_in false bs) bs)) missing outside

-- whether a width or a height is 1 to 16384
abbrev pub size_fits : ℕ → Bool
size_fits n = pick (ltb n 1) false (leb n 16384)

-- the width or the height at the front, or its mistake: that it is missing, or that it is not 1 to 16384
unfoldable pub size_in : List ℕ → HeaderError → HeaderError → Result Field HeaderError
size_in bs missing outside =
    and_then (field_in bs missing outside) (λ size. pick (size_fits size.value) (Ok size) (Err outside))

-- how many bytes the maxval takes with its gap, or its mistake: that it is missing, that it is not 255, or that no white space is behind it
unfoldable pub maxval_in : List ℕ → Result ℕ HeaderError
maxval_in bs =
    and_then (field_in bs NoMaxval OtherMaxval) (λ maxval.
    pick (eqb maxval.value 255)
    (pick (is_space (get_or bs maxval.len 0)) (Ok maxval.len) (Err NoPixels))
    (Err OtherMaxval))

-- whether the bytes begin with P6
abbrev pub starts_p6 : List ℕ → Bool
starts_p6 bs = pick (eqb (get_or bs 0 0) 80) (eqb (get_or bs 1 0) 54) false

-- whether bytes begin with a carriage return and a line feed
abbrev pub starts_crlf : List ℕ → Bool
starts_crlf bs = pick (eqb (get_or bs 0 0) 13) (eqb (get_or bs 1 0) 10) false

-- the header at the start of a file's bytes, or its first mistake: P6, and then width, height and maxval, each behind the one before
unfoldable pub header_of : List ℕ → Result Header HeaderError
header_of bs =
    pick (starts_p6 bs)
    (and_then (size_in (drop 2 bs) NoWidth WidthOutside) (λ width.
    and_then (size_in (drop (2 + width.len) bs) NoHeight HeightOutside) (λ height.
    and_then (maxval_in (drop (2 + width.len + height.len) bs)) (λ maxval.
    Ok (record {
      width = width.value;
      height = height.value;
      pixels = 2 + width.len + height.len + maxval + 1;
      crlf = starts_crlf (drop (2 + width.len + height.len + maxval) bs);
    })))))
    (Err NoName)

-- what is said of a mistake
abbrev pub mistake_text : HeaderError → List ℕ
mistake_text NoName = codes "does not begin with P6; expected a binary PPM picture"
mistake_text NoWidth = codes "has no width in its first 4096 bytes; expected a number from 1 to 16384 behind P6"
mistake_text NoHeight = codes "has no height in its first 4096 bytes; expected a number from 1 to 16384 behind the width"
mistake_text NoMaxval = codes "has no greatest value in its first 4096 bytes; expected 255 behind the height"
mistake_text WidthOutside = codes "has a width out of range; expected 1 to 16384"
mistake_text HeightOutside = codes "has a height out of range; expected 1 to 16384"
mistake_text OtherMaxval = codes "has a greatest value that is not 255; expected 255"
mistake_text NoPixels = codes "has no pixels behind its greatest value; expected one white space and then the pixels"

-- what holds of the header of so many bytes
pub record SizesRead (header : Header) (bytes : ℕ) : Type 0 where
  pub wide : 1 ≤ header.width
  pub narrow : header.width ≤ 16384
  pub high : 1 ≤ header.height
  pub low : header.height ≤ 16384
  pub inside : header.pixels ≤ bytes

-- the header of a picture, without a comment: P6, a line feed, width, a space, height, a line feed, 255, a line feed
unfoldable pub header_text : ℕ → ℕ → List ℕ
header_text width height =
    (80 ∷ 54 ∷ 10 ∷ []) ++ decimal_of width ++ (32 ∷ []) ++ decimal_of height ++ (10 ∷ 50 ∷ 53 ∷ 53 ∷ 10 ∷ [])
