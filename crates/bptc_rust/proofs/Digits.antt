-- An IndexList is the number of its indexes, each a digit of I bits: what `get` and `set` do to them.
use Prim.Native.Nat.{ℕ, zero, suc, ◌+◌, ◌*◌, ◌/◌, ◌%◌, ◌^◌, ◌≤◌, ◌<◌}
use native.Mathlib.Nat.{add_comm, zero-mul, one-mul, suc-mul, div-one, zero-div, zero-mod, mul-le-mul_right, le-pred_of_lt, lt_of_lt_of_le}
use native.Mathlib.Numerals.{add-one}
use native.Mathlib.Omega.{arith}
use mathlib.Core.Path.{◌≡◌, sym, ap, subst, ◌∙◌}
use mathlib.Core.List.{List, [], ◌∷◌, ◌++◌, append-nil, append_assoc}
use lib.Bits.{and_mask, or_shifted_r}
use lib.Pow.{pow_pos, pow_mono, shl_exact, shr-shr, high, low}
use lib.Seq.{take-suc, length-take-le}
use lib.ListN.{length, get_or, take, replicate, length-append, length-replicate, replicate-append-replicate}
use Rattle.lists.specs.Bits.{split, join}
use Rattle.lists.proofs.Bits.{fits-same, fits-split, fits-length, fits-at, split-join, join-split, join_lt, join_append, join_single, sum-replicate}
use Rattle.bptc_rust.specs.Words.{loop, enumerate}
use Rattle.bptc_rust.specs.IndexList.{get, put, index_list}

-- the number of digits, the lowest first: fields of one width
unfoldable pub digits : ℕ → List ℕ → ℕ
digits I xs = join (replicate (length xs) I) xs

-- every digit has I bits
abbrev pub Small : ℕ → List ℕ → Type 0
Small I xs = (i : ℕ) → get_or xs i 0 < 2 ^ I

-- the number has no bits above them
pub digits_small : (I : ℕ) (xs : List ℕ) → Small I xs → digits I xs < 2 ^ (length xs * I)
unfolding digits
digits_small I xs h = rw sum-replicate at (join_lt (fits-same I xs (λ i l. h i)))

-- two lists, one after the other
pub digits_append : (I : ℕ) (xs ys : List ℕ) → digits I (xs ++ ys) ≡ digits I ys * 2 ^ (length xs * I) + digits I xs
unfolding digits
digits_append I xs ys =
    rw (length-append, ← replicate-append-replicate, join_append (replicate (length xs) I) xs (replicate (length ys) I) ys (rw length-replicate), sum-replicate)

-- one more above them
pub digits_snoc : (I : ℕ) (xs : List ℕ) (v : ℕ) → digits I (xs ++ (v ∷ [])) ≡ v * 2 ^ (length xs * I) + digits I xs
unfolding digits
digits_snoc I xs v = digits_append I xs (v ∷ []) ∙ ap (λ (n : ℕ). n * 2 ^ (length xs * I) + digits I xs) (join_single I v)

-- with one more
pub small_snoc : (I : ℕ) (xs : List ℕ) (v : ℕ) → Small I xs → v < 2 ^ I → Small I (xs ++ (v ∷ []))
small_snoc I [] v h hv zero = hv
small_snoc I [] v h hv (suc i) = pow_pos I
small_snoc I (x ∷ xs) v h hv zero = h 0
small_snoc I (x ∷ xs) v h hv (suc i) = small_snoc I xs v (λ i. h (suc i)) hv i

-- their number
pub length_snoc : (xs : List ℕ) (v : ℕ) → length (xs ++ (v ∷ [])) ≡ suc (length xs)
length_snoc xs v = length-append xs (v ∷ []) ∙ add-one (length xs)

-- the first ones
small_take : (I : ℕ) (xs : List ℕ) (k : ℕ) → Small I xs → Small I (take k xs)
small_take I xs zero h i = pow_pos I
small_take I [] (suc k) h i = pow_pos I
small_take I (x ∷ xs) (suc k) h zero = h 0
small_take I (x ∷ xs) (suc k) h (suc i) = small_take I xs k (λ i. h (suc i)) i

-- one, shifted
pub one_shl : (w k : ℕ) → suc k ≤ w → 1 * 2 ^ k % 2 ^ w ≡ 2 ^ k
one_shl w k h = shl_exact 1 k w (omega arith) (omega arith) ∙ one-mul (2 ^ k)

-- a digit by its place
pub digit_at : (I : ℕ) (xs : List ℕ) (i : ℕ) → Small I xs → digits I xs / 2 ^ (i * I) % 2 ^ I ≡ get_or xs i 0
unfolding digits join
digit_at I [] i h = rw (zero-div, zero-mod)
digit_at I (x ∷ xs) zero h = rw (zero-mul, div-one) (low (digits I xs) I (h 0))
digit_at I (x ∷ xs) (suc i) h = rw (suc-mul, add_comm (i * I) I, ← shr-shr, high (digits I xs) I (h 0)) (digit_at I xs i (λ i. h (suc i)))

-- the digits of a number
pub split-length : (k I n : ℕ) → length (split (replicate k I) n) ≡ k
split-length k I n = fits-length (fits-split (replicate k I) n) ∙ length-replicate k I

replicate_le : (k I i : ℕ) → get_or (replicate k I) i 0 ≤ I
replicate_le zero I i = omega arith
replicate_le (suc k) I zero = omega arith
replicate_le (suc k) I (suc i) = replicate_le k I i

-- have I bits
split_small : (k I n : ℕ) → Small I (split (replicate k I) n)
split_small k I n i = lt_of_lt_of_le (fits-at (fits-split (replicate k I) n) i) (pow_mono (replicate_le k I i))

-- and make the number again
pub split_digits : (k I n : ℕ) → n < 2 ^ (k * I) → digits I (split (replicate k I) n) ≡ n
unfolding digits
split_digits k I n h =
    subst (λ (l : ℕ). join (replicate l I) (split (replicate k I) n) ≡ n) (sym (split-length k I n)) (join-split (replicate k I) n (rw sum-replicate h))

module _ (I : ℕ) (narrow : I ≤ 4) where
  -- sixteen of them have room
  pub room : (l : ℕ) → l < 16 → I + l * I ≤ 64
  room l h = omega (arith, mul-le-mul_right I (le-pred_of_lt h))

  -- get
  pub get_digits : (xs : List ℕ) (i : ℕ) → Small I xs → get I (digits I xs) i ≡ get_or xs i 0
  unfolding get
  get_digits xs i h = rw (one_shl 8 I (omega arith), and_mask) (digit_at I xs i h)

  -- set, at the place after the last
  pub put_digits : (xs : List ℕ) (v : ℕ) → length xs < 16 → Small I xs → v < 2 ^ I → put I (digits I xs) (length xs) v ≡ digits I (xs ++ (v ∷ []))
  unfolding put
  put_digits xs v l h hv =
      rw (shl_exact I (length xs * I) 64 hv (room (length xs) l), or_shifted_r v (length xs * I) (digits I xs) (digits_small I xs h)) (sym (digits_snoc I xs v))

  -- set, in a loop over a list of sixteen
  pub put_next : (xs : List ℕ) (i : ℕ) → length xs ≡ 16 → Small I xs → i < 16 → put I (digits I (take i xs)) i (get_or xs i 0) ≡ digits I (take (suc i) xs)
  put_next xs i e h l =
      let k : length (take i xs) ≡ i = length-take-le i xs (omega arith) in
      rw (take-suc xs i 0 (omega arith)) (rw k at (put_digits (take i xs) (get_or xs i 0) (omega arith) (small_take I xs i h) (h i)))

  listed_on : (xs done : List ℕ) → length done + length xs ≤ 16 → Small I done → Small I xs →
      loop (enumerate (length done) xs) (digits I done) (λ (self : ℕ) ((i, value) : ℕ × ℕ). put I self i value) ≡ digits I (done ++ xs)
  listed_on [] done l h k = ap (digits I) (sym (append-nil done))
  listed_on (x ∷ xs) done l h k =
      ap (λ (n : ℕ). loop (enumerate (suc (length done)) xs) n (λ (self : ℕ) ((i, value) : ℕ × ℕ). put I self i value)) (put_digits done x (omega arith) h (k 0))
      ∙ ap (λ (n : ℕ). loop (enumerate n xs) (digits I (done ++ (x ∷ []))) (λ (self : ℕ) ((i, value) : ℕ × ℕ). put I self i value)) (sym (length_snoc done x))
      ∙ listed_on xs (done ++ (x ∷ [])) (omega (arith, length_snoc done x)) (small_snoc I done x h (k 0)) (λ i. k (suc i))
      ∙ ap (digits I) (append_assoc done (x ∷ []) xs)

  -- sixteen indexes, set one by one
  pub list_digits : (xs : List ℕ) → length xs ≡ 16 → Small I xs → index_list I xs ≡ digits I xs
  unfolding index_list digits join
  list_digits xs l h = listed_on xs [] (omega arith) (λ i. pow_pos I) h

  -- they are read again from it
  pub list_split : (xs : List ℕ) → length xs ≡ 16 → Small I xs → split (replicate 16 I) (index_list I xs) ≡ xs
  unfolding digits
  list_split xs l h =
      ap (split (replicate 16 I)) (list_digits xs l h)
      ∙ subst (λ (k : ℕ). split (replicate k I) (digits I xs) ≡ xs) l (split-join (fits-same I xs (λ i k. h i)))

  -- a number of sixteen indexes is the list of them
  pub split_list : (n : ℕ) → n < 2 ^ (16 * I) → index_list I (split (replicate 16 I) n) ≡ n
  split_list n h = list_digits (split (replicate 16 I) n) (split-length 16 I n) (split_small 16 I n) ∙ split_digits 16 I n h

  -- which has no more bits than they
  pub list_lt : (xs : List ℕ) → length xs ≡ 16 → Small I xs → index_list I xs < 2 ^ (16 * I)
  list_lt xs l h = rw (list_digits xs l h) (subst (λ (k : ℕ). digits I xs < 2 ^ (k * I)) l (digits_small I xs h))
