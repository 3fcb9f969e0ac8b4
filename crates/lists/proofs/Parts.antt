-- Laws of parts of a list, and of parts that a loop writes one after the other.
use Prim.Native.Nat.{ℕ, zero, suc, ◌+◌, ◌*◌, ◌≤◌, ◌<◌}
use native.Mathlib.Nat.{eq-or-lt_of_le, zero-mul, suc-mul, mul-le-mul_right}
use native.Mathlib.Numerals.{add-one}
use native.Mathlib.Omega.{arith}
use mathlib.Core.Path.{◌≡◌, sym, ap}
use mathlib.Core.Logic.{inl, inr}
use mathlib.Core.List.{List, ◌++◌, append_assoc, append-nil}
use lib.ListN.{length, take, drop, length-append, length-drop, drop_of_length-le}
use lib.Seq.{length-take-le, take_at, drop_at, drop-drop, take_all, take-append-le, drop-append-le}
use borrow.Rule.Slice.PartMut.{put_mid}
use Rattle.lists.specs.Parts.{part_at, joined}

-- each of the first n parts has w elements
abbrev pub Wide : {A : Type 0} → ℕ → (ℕ → List A) → ℕ → Type 0
Wide w f n = (k : ℕ) → k < n → length (f k) ≡ w

-- a part ends before the next one
part_past : (w n k : ℕ) → k < n → k * w + w ≤ n * w
part_past w n k h = omega (arith, mul-le-mul_right w h, suc-mul k w)

-- each of n parts that make up a list has w elements
pub part_length : {A : Type 0} (w : ℕ) (xs : List A) (n : ℕ) → length xs ≡ n * w → Wide w (λ (k : ℕ). part_at w k xs) n
part_length w xs n e k h = length-take-le w (drop (k * w) xs) (simp length-drop (omega (arith, part_past w n k h)))

module _ {A : Type 0} (w : ℕ) (f : ℕ → List A) where
  -- n parts have n times as many
  pub joined_length : (n : ℕ) → Wide w f n → length (joined f n) ≡ n * w
  unfolding joined
  joined_length zero wide = sym (zero-mul w)
  joined_length (suc n) wide =
      simp length-append
      (omega (arith, joined_length n (λ k h. wide k (omega arith)), wide n (omega arith), suc-mul n w))

  -- each part at its place
  pub joined_at : (n k : ℕ) → Wide w f n → k < n → part_at w k (joined f n) ≡ f k
  unfolding joined
  joined_at zero k wide h = absurd (omega arith)
  joined_at (suc n) k wide h =
      let front : List A = joined f n in
      let before : Wide w f n = λ k h. wide k (omega arith) in
      let l : length front ≡ n * w = joined_length n before in
      elim (eq-or-lt_of_le {n = k} {m = n} (omega arith)) [
        | inl same ↦
            let whole : length (f n) ≤ w = omega (arith, wide n (omega arith)) in
            rw (same, drop_at front (f n) (n * w) l) (take_all w (f n) whole)
        | inr less ↦
            let inside : k * w ≤ length front = omega (arith, part_past w n k less) in
            let whole : w ≤ length (drop (k * w) front) = simp length-drop (omega (arith, part_past w n k less)) in
            rw (drop-append-le (k * w) front (f n) inside, take-append-le w (drop (k * w) front) (f n) whole)
            (joined_at n k before less)
      ]

  -- parts written over a list
  module _ (xs : List A) (n : ℕ) where
    -- one more
    pub joined-next : Wide w f n →
        put_mid (n * w) w (joined f n ++ drop (n * w) xs) (f n) ≡ joined f (n + 1) ++ drop ((n + 1) * w) xs
    unfolding joined
    joined-next wide =
        let front : List A = joined f n in
        let rest : List A = drop (n * w) xs in
        let l : length front ≡ n * w = joined_length n wide in
        rw (take_at front rest (n * w) l, drop_at front rest (n * w) l, add-one, suc-mul, ← drop-drop w (n * w) xs)
        (sym (append_assoc front (f n) (drop w rest)))

    -- the next one, which is not written yet
    pub joined_rest : Wide w f n → part_at w n (joined f n ++ drop (n * w) xs) ≡ part_at w n xs
    joined_rest wide = ap (take w) (drop_at (joined f n) (drop (n * w) xs) (n * w) (joined_length n wide))

    -- after the last
    pub joined-all : length xs ≡ n * w → joined f n ++ drop (n * w) xs ≡ joined f n
    joined-all e =
        let all : length xs ≤ n * w = omega arith in
        rw (drop_of_length-le xs all, append-nil)
