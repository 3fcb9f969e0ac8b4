-- The rows worked by hand are what the definitions give.
use mathlib.Core.Path.{refl}
use Rattle.text.specs.Line.{decimal_of, thousandths_of, hundredths_of}
use Rattle.text.specs.Decimal.{value_of, number_in}
use Rattle.text.specs.Words.{word_of}
use Rattle.text.specs.Ppm.{small_number, field_in, size_in, maxval_in, header_of, header_text}
use Rattle.text.specs.Worked.{Worked}

-- by computing every definition
pub worked : Worked
unfolding decimal_of thousandths_of hundredths_of value_of number_in word_of small_number field_in size_in maxval_in header_of header_text
worked = record {
  put = refl;
  not_put = refl;
  written = refl;
  zero_written = refl;
  whole_and_places = refl;
  places_alone = refl;
  hundredths = refl;
  hundredths_alone = refl;
  number = refl;
  leading_zero = refl;
  no_number = refl;
  second_word = refl;
  third_word = refl;
  header_written = refl;
  header-taken = refl;
  comment-skipped = refl;
  crlf-seen = refl;
  return_alone = refl;
  two_feeds = refl;
  cut_off = refl;
}
