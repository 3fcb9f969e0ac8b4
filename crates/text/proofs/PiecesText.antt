-- Laws of texts that are put together piece by piece.
use Prim.Native.Nat.{ℕ, ◌+◌, ◌/◌, ◌%◌, ◌^◌, ◌<◌, ◌≤◌}
use native.Mathlib.Omega.{arith}
use mathlib.Core.Path.{◌≡◌}
use mathlib.Core.List.{List, [], ◌∷◌, ◌++◌, append_assoc}
use lib.ListN.{length, length-append}
use borrow.Author.Tests.{lt-ltb, le-leb}
use Rattle.text.specs.Line.{with_text, decimal_of, thousandths_of, hundredths_of}
use Rattle.text.specs.Ppm.{header_text}
use Rattle.text.proofs.DecimalText.{decimal-length}

-- a text that fits
put_fits : (most : ℕ) (line text : List ℕ) → length line + length text ≤ most → with_text most line text ≡ line ++ text
put_fits most line text h = rw (le-leb _ _ h)

-- a number of 64 bits has at most twenty digits
digits_twenty : (n : ℕ) → n < 2 ^ 64 → length (decimal_of n) ≤ 20
digits_twenty n h = decimal-length n h 20 (omega arith) (omega arith)

-- a digit
digit_text : (n : ℕ) → n < 10 → decimal_of n ≡ (48 + n) ∷ []
unfolding decimal_of
digit_text n h = rw (lt-ltb n 10 h)

-- the text of a number of thousandths: its whole part, the point and three places
pub thousandths_put : (n : ℕ) → n < 2 ^ 64 →
    with_text 24 (with_text 24 (with_text 24 (with_text 24 (with_text 24 [] (decimal_of (n / 1000))) (46 ∷ [])) (decimal_of (n / 100 % 10)))
    (decimal_of (n / 10 % 10)))
    (decimal_of (n % 10))
    ≡ thousandths_of n
unfolding thousandths_of
thousandths_put n h =
    let d = digits_twenty (n / 1000) (omega arith) in
    let whole = decimal_of (n / 1000) in
    let tenths : ℕ = 48 + n / 100 % 10 in
    let hundredths : ℕ = 48 + n / 10 % 10 in
    rw (
      digit_text (n / 100 % 10) (omega arith),
      digit_text (n / 10 % 10) (omega arith),
      digit_text (n % 10) (omega arith),
      put_fits 24 [] whole (omega arith),
      put_fits 24 whole (46 ∷ []) (omega arith),
      put_fits 24 (whole ++ (46 ∷ [])) (tenths ∷ []) (rw length-append (omega arith)),
      put_fits 24 ((whole ++ (46 ∷ [])) ++ (tenths ∷ [])) (hundredths ∷ []) (simp length-append (omega arith)),
      put_fits 24 (((whole ++ (46 ∷ [])) ++ (tenths ∷ [])) ++ (hundredths ∷ [])) ((48 + n % 10) ∷ []) (simp length-append (omega arith)),
    ) (simp append_assoc)

-- the text of a number of hundredths: its whole part, the point and two places
pub hundredths_put : (n : ℕ) → n < 2 ^ 64 →
    with_text 24 (with_text 24 (with_text 24 (with_text 24 [] (decimal_of (n / 100))) (46 ∷ [])) (decimal_of (n / 10 % 10))) (decimal_of (n % 10))
    ≡ hundredths_of n
unfolding hundredths_of
hundredths_put n h =
    let d = digits_twenty (n / 100) (omega arith) in
    let whole = decimal_of (n / 100) in
    let tenths : ℕ = 48 + n / 10 % 10 in
    rw (
      digit_text (n / 10 % 10) (omega arith),
      digit_text (n % 10) (omega arith),
      put_fits 24 [] whole (omega arith),
      put_fits 24 whole (46 ∷ []) (omega arith),
      put_fits 24 (whole ++ (46 ∷ [])) (tenths ∷ []) (rw length-append (omega arith)),
      put_fits 24 ((whole ++ (46 ∷ [])) ++ (tenths ∷ [])) ((48 + n % 10) ∷ []) (simp length-append (omega arith)),
    ) (simp append_assoc)

-- the header of a picture: its name, width, a space, height, and the end
pub header_put : (w h : ℕ) → w < 2 ^ 64 → h < 2 ^ 64 →
    with_text 64 (with_text 64 (with_text 64 (with_text 64 (with_text 64 [] (80 ∷ 54 ∷ 10 ∷ [])) (decimal_of w)) (32 ∷ [])) (decimal_of h))
    (10 ∷ 50 ∷ 53 ∷ 53 ∷ 10 ∷ [])
    ≡ header_text w h
unfolding header_text
header_put w h wide high =
    let dw = digits_twenty w wide in
    let dh = digits_twenty h high in
    let name : List ℕ = 80 ∷ 54 ∷ 10 ∷ [] in
    let first = name ++ decimal_of w in
    let space = first ++ (32 ∷ []) in
    let second = space ++ decimal_of h in
    let one : length first ≤ 23 = rw length-append (omega arith) in
    let two : length second ≤ 44 = rw length-append (rw length-append (omega arith)) in
    rw (
      put_fits 64 name (decimal_of w) (omega arith),
      put_fits 64 first (32 ∷ []) (omega arith),
      put_fits 64 space (decimal_of h) (rw length-append (omega arith)),
      put_fits 64 second (10 ∷ 50 ∷ 53 ∷ 53 ∷ 10 ∷ []) (omega arith),
    )
