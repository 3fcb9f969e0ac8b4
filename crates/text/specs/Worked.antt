-- Rows worked by hand, in plain bytes.
use Rattle.std.specs.Prelude.{◌≡◌, true, false, [], ◌∷◌, None, Some, Ok, Err}
use Rattle.text.specs.declared.ppm.HeaderError.TheVariants.{NoPixels}
use Rattle.text.specs.Line.{with_text, decimal_of, thousandths_of, hundredths_of}
use Rattle.text.specs.Decimal.{number_in}
use Rattle.text.specs.Words.{word_of}
use Rattle.text.specs.Ppm.{header_of, header_text}

-- what each definition gives
pub record Worked : Type 0 where
  -- "to" behind "be" in a line with room for four bytes
  pub put : with_text 4 (98 ∷ 101 ∷ []) (116 ∷ 111 ∷ []) ≡ 98 ∷ 101 ∷ 116 ∷ 111 ∷ []
  -- and in one with room for three
  pub not_put : with_text 3 (98 ∷ 101 ∷ []) (116 ∷ 111 ∷ []) ≡ 98 ∷ 101 ∷ []
  -- 120 is "120"
  pub written : decimal_of 120 ≡ 49 ∷ 50 ∷ 48 ∷ []
  -- 0 is "0"
  pub zero_written : decimal_of 0 ≡ 48 ∷ []
  -- 1265 thousandths are "1.265"
  pub whole_and_places : thousandths_of 1265 ≡ 49 ∷ 46 ∷ 50 ∷ 54 ∷ 53 ∷ []
  -- 7 thousandths are "0.007"
  pub places_alone : thousandths_of 7 ≡ 48 ∷ 46 ∷ 48 ∷ 48 ∷ 55 ∷ []
  -- 4711 hundredths are "47.11"
  pub hundredths : hundredths_of 4711 ≡ 52 ∷ 55 ∷ 46 ∷ 49 ∷ 49 ∷ []
  -- 5 hundredths are "0.05"
  pub hundredths_alone : hundredths_of 5 ≡ 48 ∷ 46 ∷ 48 ∷ 53 ∷ []
  -- "120" is 120
  pub number : number_in (49 ∷ 50 ∷ 48 ∷ []) ≡ Some 120
  -- "042" is 42
  pub leading_zero : number_in (48 ∷ 52 ∷ 50 ∷ []) ≡ Some 42
  -- "4.2" is no number
  pub no_number : number_in (52 ∷ 46 ∷ 50 ∷ []) ≡ None
  -- "to" and "be", each ended by a 0 byte, and an "o" that is not: word 1 is "be"
  pub second_word : word_of (116 ∷ 111 ∷ 0 ∷ 98 ∷ 101 ∷ 0 ∷ 111 ∷ []) 1 ≡ 98 ∷ 101 ∷ []
  -- and there is no word 2
  pub third_word : word_of (116 ∷ 111 ∷ 0 ∷ 98 ∷ 101 ∷ 0 ∷ 111 ∷ []) 2 ≡ []
  -- a picture of 64 by 48: "P6", a line feed, "64 48", a line feed, "255", a line feed
  pub header_written : header_text 64 48 ≡ 80 ∷ 54 ∷ 10 ∷ 54 ∷ 52 ∷ 32 ∷ 52 ∷ 56 ∷ 10 ∷ 50 ∷ 53 ∷ 53 ∷ 10 ∷ []
  -- the same read: pixels from byte 13 on
  pub header-taken :
      header_of (80 ∷ 54 ∷ 10 ∷ 54 ∷ 52 ∷ 32 ∷ 52 ∷ 56 ∷ 10 ∷ 50 ∷ 53 ∷ 53 ∷ 10 ∷ [])
      ≡ Ok (record { width = 64; height = 48; pixels = 13; crlf = false })
  -- P6, a comment "# 9 9", a line feed, "4 2", a line feed, "255", a line feed: 4 by 2, with pixels from byte 16 on
  pub comment-skipped :
      header_of (80 ∷ 54 ∷ 35 ∷ 32 ∷ 57 ∷ 32 ∷ 57 ∷ 10 ∷ 52 ∷ 32 ∷ 50 ∷ 10 ∷ 50 ∷ 53 ∷ 53 ∷ 10 ∷ 0 ∷ [])
      ≡ Ok (record { width = 4; height = 2; pixels = 16; crlf = false })
  -- P6, a space, "4 2 255", a carriage return and a line feed: pixels from byte 11 on, the line feed
  pub crlf-seen :
      header_of (80 ∷ 54 ∷ 32 ∷ 52 ∷ 32 ∷ 50 ∷ 32 ∷ 50 ∷ 53 ∷ 53 ∷ 13 ∷ 10 ∷ [])
      ≡ Ok (record { width = 4; height = 2; pixels = 11; crlf = true })
  -- P6, a space, "4 2 255" and a carriage return alone: pixels from byte 11 on
  pub return_alone :
      header_of (80 ∷ 54 ∷ 32 ∷ 52 ∷ 32 ∷ 50 ∷ 32 ∷ 50 ∷ 53 ∷ 53 ∷ 13 ∷ [])
      ≡ Ok (record { width = 4; height = 2; pixels = 11; crlf = false })
  -- P6, a space, "4 2 255" and two line feeds: pixels from byte 11 on, the second line feed
  pub two_feeds :
      header_of (80 ∷ 54 ∷ 32 ∷ 52 ∷ 32 ∷ 50 ∷ 32 ∷ 50 ∷ 53 ∷ 53 ∷ 10 ∷ 10 ∷ [])
      ≡ Ok (record { width = 4; height = 2; pixels = 11; crlf = false })
  -- P6, a space, "4 2 255" and no more: no white space behind the maxval
  pub cut_off :
      header_of (80 ∷ 54 ∷ 32 ∷ 52 ∷ 32 ∷ 50 ∷ 32 ∷ 50 ∷ 53 ∷ 53 ∷ []) ≡ Err NoPixels
