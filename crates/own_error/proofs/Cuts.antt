-- Parts, errors and pixels of two lists, one after the other.
use Prim.Native.Nat.{ℕ, zero, suc, ◌+◌, ◌*◌, ◌≤◌, ◌<◌}
use native.Mathlib.Nat.{add-zero, add-suc, add-mul, mul-le-mul_right}
use native.Mathlib.Omega.{arith}
use mathlib.Core.Path.{◌≡◌, refl, ap, ap₂, ◌∙◌}
use mathlib.Core.List.{List, ◌++◌, append-nil, append_assoc}
use lib.ListN.{length, drop, get_or, length-drop, get_or-append}
use lib.Seq.{take-append-le, drop-append-le, drop-append-add, get_or-append-add}
use Rattle.lists.specs.Rows.{sum}
use Rattle.lists.specs.Parts.{part_at, joined}
use Rattle.lists.proofs.Parts.{Wide, part_length, joined_length}
use Rattle.bptc_block.specs.RoundTrip.{pixels_apart}
use Rattle.bptc_block.proofs.ReadCall.{read_length}
use Rattle.figures.specs.Row.{measured_at, errors_of, shown_at, shown_of}
use Rattle.own_error.specs.OwnTotal.{pictures_apart}
use Rattle.own_error.proofs.Apart.{pixels_moved}
use Rattle.own_error.proofs.Totals.{to_same, to-add}

module _ {A : Type 0} (w a k : ℕ) (xs ys : List A) (long : length xs ≡ a * w) where
  -- a part of the first
  pub part_first : k < a → part_at w k (xs ++ ys) ≡ part_at w k xs
  part_first h =
      let past : k * w + w ≤ a * w = omega (arith, mul-le-mul_right {m = k + 1} {n = a} w (omega arith), add-mul k 1 w) in
      let inside : k * w ≤ length xs = omega arith in
      let whole : w ≤ length (drop (k * w) xs) = simp length-drop (omega arith) in
      rw (drop-append-le (k * w) xs ys inside, take-append-le w (drop (k * w) xs) ys whole)

  -- a part of the second
  pub part_second : part_at w (a + k) (xs ++ ys) ≡ part_at w k ys
  part_second =
      let place : (a + k) * w ≡ length xs + k * w = rw (add-mul a k w) (omega arith) in
      rw (place, drop-append-add xs ys (k * w))

-- parts joined that agree
pub joined_same : {A : Type 0} (f g : ℕ → List A) (n : ℕ) → ((k : ℕ) → k < n → f k ≡ g k) → joined f n ≡ joined g n
unfolding joined
joined_same f g zero h = refl
joined_same f g (suc n) h = ap₂ ◌++◌ (joined_same f g n (λ k l. h k (omega arith))) (h n (omega arith))

-- parts joined of two ranges
joined-add : {A : Type 0} (f : ℕ → List A) (m n : ℕ) → joined f (m + n) ≡ joined f m ++ joined (λ (k : ℕ). f (m + k)) n
unfolding joined
joined-add f m zero = rw (add-zero, append-nil)
joined-add {A} f m (suc n) =
    rw add-suc
    (ap (λ (l : List A). l ++ f (m + n)) (joined-add f m n)
    ∙ append_assoc (joined f m) (joined (λ (k : ℕ). f (m + k)) n) (f (m + n)))

-- the groups that n blocks show
module _ (blocks groups : List ℕ) (n : ℕ) (long : length groups ≡ 48 * n) where
  -- each is as long as it was
  pub shown_wide : Wide 48 (shown_at blocks groups) n
  unfolding shown_at
  shown_wide k h = read_length (part_at 16 k blocks) (part_at 48 k groups) ∙ part_length 48 groups n (omega arith) k h

  -- and so are all
  pub shown_length : length (shown_of blocks groups n) ≡ 48 * n
  unfolding shown_of
  shown_length = joined_length 48 (shown_at blocks groups) n shown_wide ∙ omega arith

module _ (a n : ℕ) (groups rest row others : List ℕ) (long : length groups ≡ a * 48) (wide : length row ≡ a * 16) where
  -- the errors of blocks of two rows
  pub errors_cut : sum (errors_of (groups ++ rest) (row ++ others) (a + n)) ≡ sum (errors_of groups row a) + sum (errors_of rest others n)
  unfolding errors_of measured_at
  errors_cut =
      to-add _ a n
      ∙ ap₂ ◌+◌
      (to_same _ _ a (λ k h. rw (part_first 48 a k groups rest long h, part_first 16 a k row others wide h)))
      (to_same _ _ n (λ k h. rw (part_second 48 a k groups rest long, part_second 16 a k row others wide)))

  -- and what they show
  pub shown_cut : shown_of (row ++ others) (groups ++ rest) (a + n) ≡ shown_of row groups a ++ shown_of others rest n
  unfolding shown_of shown_at
  shown_cut =
      joined-add _ a n
      ∙ ap₂ ◌++◌
      (joined_same _ _ a (λ k h. rw (part_first 48 a k groups rest long h, part_first 16 a k row others wide h)))
      (joined_same _ _ n (λ k h. rw (part_second 48 a k groups rest long, part_second 16 a k row others wide)))

-- two pictures of which the first have m pixels
module _ (m : ℕ) (xs ys : List ℕ) (long : length xs ≡ m * 3) where
  -- a byte of the first
  byte_first : (p c : ℕ) → p < m → c < 3 → get_or (xs ++ ys) (p * 3 + c) 0 ≡ get_or xs (p * 3 + c) 0
  byte_first p c hp hc = get_or-append xs ys 0 (p * 3 + c) (omega arith)

  -- a byte of the second
  byte_second : (p c : ℕ) → c < 3 → get_or (xs ++ ys) ((m + p) * 3 + c) 0 ≡ get_or ys (p * 3 + c) 0
  byte_second p c h =
      let place : (m + p) * 3 + c ≡ length xs + (p * 3 + c) = omega arith in
      rw place (get_or-append-add xs ys (p * 3 + c) 0)

-- the distance of pictures that are cut after m pixels
pub apart_cut : (m n : ℕ) (xs ys xs' ys' : List ℕ) → length xs ≡ m * 3 → length xs' ≡ m * 3 →
    pictures_apart (m + n) (xs ++ ys) (xs' ++ ys') ≡ pictures_apart m xs xs' + pictures_apart n ys ys'
apart_cut m n xs ys xs' ys' long long' =
    to-add (pixels_apart (xs ++ ys) (xs' ++ ys')) m n
    ∙ ap₂ ◌+◌
    (to_same _ _ m
    (λ p h.
    pixels_moved (xs ++ ys) (xs' ++ ys') xs xs' p p (λ c. byte_first m xs ys long p c h) (λ c. byte_first m xs' ys' long' p c h)))
    (to_same _ _ n
    (λ p h. pixels_moved (xs ++ ys) (xs' ++ ys') ys ys' (m + p) p (byte_second m xs ys long p) (byte_second m xs' ys' long' p)))
