-- The worst blocks, as keys in order.
use Rattle.std.specs.Prelude.{ℕ, suc, ◌+◌, ◌-◌, ◌*◌, ◌/◌, ◌%◌, ◌≤◌, ◌<◌, min, max, ◌≡◌, List, [], ◌∷◌, ◌⊎◌, eqb, length, get_or, take, replicate}
use Rattle.lists.specs.Tests.{pick}

-- the key of a block: 32 bits of its error, 24 of its number counted down, a bit of its mode, 6 of its partition, and 1 more
abbrev pub key_of : ℕ → ℕ → ℕ → ℕ → ℕ
key_of error number mode partition = error * 2147483648 + (16777215 - number) * 128 + (mode / 2 % 2) * 64 + partition % 64 + 1

-- the error in a key
abbrev pub error_of : ℕ → ℕ
error_of key = (key - 1) / 2147483648

-- the number
abbrev pub entry_number : ℕ → ℕ
entry_number key = 16777215 - (key - 1) / 128 % 16777216

-- the mode, 1 or 3
abbrev pub entry_mode : ℕ → ℕ
entry_mode key = 1 + 2 * ((key - 1) / 64 % 2)

-- the partition
abbrev pub partition_of : ℕ → ℕ
partition_of key = (key - 1) % 64

-- keys with one more put in: the greater stays at each place, and the lesser is carried on to the next
unfoldable pub inserted : List ℕ → ℕ → List ℕ
inserted [] key = []
inserted (x ∷ xs) key = max x key ∷ inserted xs (min x key)

-- several, one after the other
unfoldable pub inserted_all : List ℕ → List ℕ → List ℕ
inserted_all held [] = held
inserted_all held (key ∷ keys) = inserted_all (inserted held key) keys

-- the parts of a key
pub record PartsOfKey (key error number mode partition : ℕ) : Type 0 where
  pub its_error : error_of key ≡ error
  pub its_number : entry_number key ≡ number
  pub its_mode : entry_mode key ≡ mode
  pub its_partition : partition_of key ≡ partition
  -- it is not that of an empty place
  pub some : 0 < key

-- a key gives back what it was made of
abbrev pub KeyParts : Type 0
KeyParts =
    (error number mode partition : ℕ) → number < 16777216 → (mode ≡ 1) ⊎ (mode ≡ 3) → partition < 64 →
    PartsOfKey (key_of error number mode partition) error number mode partition

-- the greater error has the greater key
abbrev pub WorseFirst : Type 0
WorseFirst = (e n m p f o q r : ℕ) → e < f → key_of e n m p < key_of f o q r

-- and at equal errors the earlier block
abbrev pub EarlierFirst : Type 0
EarlierFirst = (e n m p o q r : ℕ) → n < o → o < 16777216 → key_of e o q r < key_of e n m p

-- from the greatest to the least; behind the end of a list stand zeros
abbrev pub Descending : List ℕ → Type 0
Descending xs = (i : ℕ) → get_or xs (suc i) 0 ≤ get_or xs i 0

-- how often a number is in a list
abbrev pub times : ℕ → List ℕ → ℕ
times n [] = 0
times n (x ∷ xs) = pick (eqb x n) 1 0 + times n xs

-- what n places hold of the keys that were put in
pub record Greatest (n : ℕ) (keys held : List ℕ) : Type 0 where
  -- the keys and n zeros for the empty places
  pub all : List ℕ
  pub same : (key : ℕ) → times key all ≡ times key keys + times key (replicate n 0)
  -- in order
  pub ordered : Descending all
  -- of these the first n
  pub first : held ≡ take n all
  pub full : length held ≡ n

-- the places hold the greatest keys, in order
abbrev pub HoldsGreatest : Type 0
HoldsGreatest = (n : ℕ) (keys : List ℕ) → Greatest n keys (inserted_all (replicate n 0) keys)
