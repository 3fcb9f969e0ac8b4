-- Laws of bytes and of the number that they make: read and written two bytes at a time.
use mathlib.Core.Path.{◌≡◌, refl, sym, ◌∙◌}
use Prim.Native.Nat.{ℕ, zero, suc, ◌+◌, ◌*◌, ◌-◌, ◌/◌, ◌%◌, ◌^◌, ◌<◌, ◌≤◌}
use native.Mathlib.Nat.{zero-lt-suc, pow-suc, pow-succ', add-zero, div-one, le_of_suc-le-suc, div-div-eq-div-mul, div-add-mod'}
use native.Mathlib.Numerals.{add-one}
use native.Mathlib.Omega.{arith}
use mathlib.Core.List.{List, [], ◌∷◌, map}
use lib.ListN.{length, get_or, drop, replicate, length-replicate, get_or-replicate}
use lib.Seq.{get_or-drop, drop-drop}
use lib.Pow.{pow-add, shr-shr, mod-mod-pow}
use lib.Pow as P
use Rattle.lists.specs.Rows.{up_from, sum}
use Rattle.lists.specs.Bits.{split, join}
use Rattle.lists.specs.Bytes.{Bytes, bytes, number}
use Rattle.lists.proofs.Rows.{each_same, listed}
use Rattle.lists.proofs.Bits.{fits-same, fits-length, fits-at, fits-split, split-join, join-split, join_lt, sum-replicate}

-- past the last one too, where 0 is read
pub byte_lt : (bs : List ℕ) → Bytes bs → (i : ℕ) → get_or bs i 0 < 256
byte_lt [] h i = zero-lt-suc 255
byte_lt (b ∷ bs) h zero = h 0 (omega arith)
byte_lt (b ∷ bs) h (suc i) = byte_lt bs (λ j l. h (suc j) (omega arith)) i

-- zeros are bytes
pub zero-bytes : (n : ℕ) → Bytes (replicate n 0)
zero-bytes n i h =
    let l : i < n = rw (length-replicate {A = ℕ} n 0) at h in
    rw (get_or-replicate {A = ℕ} n i 0 0) (omega arith)

-- k bytes have 8 × k bits
pub bits_of : (k : ℕ) → 2 ^ sum (replicate k 8) ≡ 256 ^ k
bits_of zero = refl
bits_of (suc k) = rw (pow-add, bits_of k, pow-succ' 256 k)

-- the bits below a place tell a field that ends there
pub window : (n j w r : ℕ) → n % 2 ^ (j + w + r) / 2 ^ r % 2 ^ w ≡ n / 2 ^ r % 2 ^ w
window n j w r = rw (P.field, mod-mod-pow)

-- k bytes are k
pub length-bytes : (k n : ℕ) → length (bytes k n) ≡ k
unfolding bytes
length-bytes k n = fits-length (fits-split (replicate k 8) n) ∙ length-replicate k 8

-- and they are bytes
pub bytes-bytes : (k n : ℕ) → Bytes (bytes k n)
unfolding bytes
bytes-bytes k n i h =
    let l : i < k = rw length-bytes at h in
    rw get_or-replicate at (fits-at (fits-split (replicate k 8) n) i)

-- bytes to a number and back
pub bytes-number : (bs : List ℕ) → Bytes bs → bytes (length bs) (number bs) ≡ bs
unfolding bytes number
bytes-number bs h = split-join (fits-same 8 bs h)

-- a number to bytes and back, where they hold it
pub number-bytes : (k n : ℕ) → n < 256 ^ k → number (bytes k n) ≡ n
unfolding bytes number
number-bytes k n h = rw length-bytes (join-split (replicate k 8) n (rw bits_of h))

-- the number of k bytes
pub number_lt : (bs : List ℕ) → Bytes bs → number bs < 256 ^ length bs
unfolding number
number_lt bs h = rw (← bits_of (length bs)) (join_lt (fits-same 8 bs h))

-- the number of four bytes
pub number-four : (bs : List ℕ) → length bs ≡ 4 → get_or bs 0 0 + get_or bs 1 0 * 256 + get_or bs 2 0 * 65536 + get_or bs 3 0 * 16777216 ≡ number bs
unfolding number join
number-four (a ∷ (b ∷ (c ∷ (d ∷ [])))) e = omega arith
number-four [] e = absurd (omega arith)
number-four (a ∷ []) e = absurd (omega arith)
number-four (a ∷ (b ∷ [])) e = absurd (omega arith)
number-four (a ∷ (b ∷ (c ∷ []))) e = absurd (omega arith)
number-four (a ∷ (b ∷ (c ∷ (d ∷ (x ∷ xs))))) e = absurd (omega arith)

-- a byte by its place
pub bytes-at : (k n i : ℕ) → i < k → get_or (bytes k n) i 0 ≡ n / 256 ^ i % 256
unfolding bytes split
bytes-at zero n i h = absurd (omega arith)
bytes-at (suc k) n zero h = rw div-one
bytes-at (suc k) n (suc i) h = rw (pow-succ' 256 i, ← div-div-eq-div-mul) (bytes-at k (n / 256) i (le_of_suc-le-suc h))

-- bytes one by one
pub bytes-listed : (k n : ℕ) → map (λ (i : ℕ). n / 256 ^ i % 256) (up_from 0 k) ≡ bytes k n
bytes-listed k n =
    each_same 0 (λ (i : ℕ). n / 256 ^ i % 256) (λ (i : ℕ). get_or (bytes k n) i 0) k (λ i h. sym (bytes-at k n i h))
    ∙ listed 0 (bytes k n) k (length-bytes k n)

number_cons : (bs : List ℕ) → number bs ≡ number (drop 1 bs) * 256 + get_or bs 0 0
unfolding number join
number_cons [] = refl
number_cons (b ∷ bs) = refl

module _ (bs : List ℕ) (h : Bytes bs) where
  number_at : (k : ℕ) → number (drop k bs) ≡ number (drop (suc k) bs) * 256 + get_or bs k 0
  number_at k = rw (drop-drop, get_or-drop, add-one, add-zero) at (number_cons (drop k bs))

  -- a number shifted by whole bytes
  pub number-drop : (k : ℕ) → number bs / 256 ^ k ≡ number (drop k bs)
  number-drop zero = div-one (number bs)
  number-drop (suc k) = rw (pow-suc 256 k, ← div-div-eq-div-mul, number-drop k) (omega (arith, number_at k, byte_lt bs h k))

  two_bytes : (k : ℕ) → number (drop k bs) % 2 ^ 16 ≡ get_or bs (suc k) 0 * 256 + get_or bs k 0
  two_bytes k = omega (arith, number_at k, number_at (suc k), byte_lt bs h k, byte_lt bs h (suc k))

  read_at : (k r w : ℕ) → r + w ≤ 16 → number bs / 2 ^ (k * 8 + r) % 2 ^ w ≡ (get_or bs (suc k) 0 * 256 + get_or bs k 0) / 2 ^ r % 2 ^ w
  read_at k r w l =
      let whole : 16 - (w + r) + w + r ≡ 16 = omega arith in
      rw (← shr-shr (number bs) (k * 8) r, ← sum-replicate k 8, bits_of k, number-drop k, ← two_bytes k) (sym (rw whole at (window (number (drop k bs)) (16 - (w + r)) w r)))

  -- what stands from a bit on, where two bytes hold it
  pub number_read : (at w : ℕ) → at % 8 + w ≤ 16
      → number bs / 2 ^ at % 2 ^ w ≡ (get_or bs (suc (at / 8)) 0 * 256 + get_or bs (at / 8) 0) / 2 ^ (at % 8) % 2 ^ w
  number_read at w l = rw div-add-mod' at (read_at (at / 8) (at % 8) w l)
