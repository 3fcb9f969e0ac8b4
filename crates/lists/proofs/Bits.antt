-- Laws of a number's fields: splitting and joining undo each other, and a field by its place.
use mathlib.Core.Path.{◌≡◌, refl, sym, ap}
use Prim.Native.Nat.{ℕ, zero, suc, ◌+◌, ◌*◌, ◌/◌, ◌%◌, ◌^◌, ◌<◌, ◌≤◌}
use native.Mathlib.Nat.{suc_inj, add_comm, add_assoc, zero-add, zero-mul, suc-mul, add-mul, mul_assoc, mod-lt, mod-one, div-one, zero-lt-suc}
use native.Mathlib.Omega.{arith}
use mathlib.Core.List.{List, [], ◌∷◌, ◌++◌}
use lib.ListN.{length, get_or, take, replicate}
use lib.Arith.{digits_lt}
use lib.Pow.{pow_pos, pow-add, shr-shr, shr_lt, high, low}
use lib.Pow as P
use Rattle.lists.specs.Rows.{sum}
use Rattle.lists.specs.Internal.Fields.{Fits, none, more}
use Rattle.lists.specs.Bits.{split, join}

-- values that fit, one list after the other
pub fits_append : {ws vs us xs : List ℕ} → Fits ws vs → Fits us xs → Fits (ws ++ us) (vs ++ xs)
fits_append none s = s
fits_append (more h r) s = more h (fits_append r s)

-- from each place
pub fits_places : (ws vs : List ℕ) → length vs ≡ length ws → ((i : ℕ) → i < length ws → get_or vs i 0 < 2 ^ get_or ws i 0) → Fits ws vs
fits_places [] [] e h = none
fits_places [] (v ∷ vs) e h = absurd (omega arith)
fits_places (w ∷ ws) [] e h = absurd (omega arith)
fits_places (w ∷ ws) (v ∷ vs) e h = more (h 0 (omega arith)) (fits_places ws vs (suc_inj e) (λ i l. h (suc i) (omega arith)))

-- fields of one width
pub fits-same : (w : ℕ) (vs : List ℕ) → ((i : ℕ) → i < length vs → get_or vs i 0 < 2 ^ w) → Fits (replicate (length vs) w) vs
fits-same w [] h = none
fits-same w (v ∷ vs) h = more (h 0 (omega arith)) (fits-same w vs (λ i l. h (suc i) (omega arith)))

-- as many values as widths
pub fits-length : {ws vs : List ℕ} → Fits ws vs → length vs ≡ length ws
fits-length none = refl
fits-length (more h r) = ap suc (fits-length r)

-- past the last field too: there both are 0
pub fits-at : {ws vs : List ℕ} → Fits ws vs → (i : ℕ) → get_or vs i 0 < 2 ^ get_or ws i 0
fits-at none i = zero-lt-suc 0
fits-at (more h r) zero = h
fits-at (more h r) (suc i) = fits-at r i

-- the fields of any number fit
pub fits-split : (ws : List ℕ) (n : ℕ) → Fits ws (split ws n)
unfolding split
fits-split [] n = none
fits-split (w ∷ ws) n = more (mod-lt n (pow_pos w)) (fits-split ws (n / 2 ^ w))

-- splitting what was joined returns the values
pub split-join : {ws vs : List ℕ} → Fits ws vs → split ws (join ws vs) ≡ vs
unfolding split join
split-join none = refl
split-join (more {w} {v} {ws} {vs} h r) = rw (low (join ws vs) w h, high (join ws vs) w h, split-join r)

-- joining what was split returns the number, where it has no bits above
pub join-split : (ws : List ℕ) (n : ℕ) → n < 2 ^ sum ws → join ws (split ws n) ≡ n
unfolding split join
join-split [] n h = omega arith
join-split (w ∷ ws) n h = rw (join-split ws (n / 2 ^ w) (shr_lt (sum ws) w (rw add_comm h))) (P.split n w)

-- a joined number has no bits above its fields
pub join_lt : {ws vs : List ℕ} → Fits ws vs → join ws vs < 2 ^ sum ws
unfolding join
join_lt none = zero-lt-suc 0
join_lt (more {w} {v} {ws} {vs} h r) = rw (add_comm w (sum ws), pow-add) (digits_lt (join_lt r) h)

-- a field by its place
pub field : (ws : List ℕ) (n k : ℕ) → get_or (split ws n) k 0 ≡ n / 2 ^ sum (take k ws) % 2 ^ get_or ws k 0
unfolding split
field [] n k = sym (mod-one (n / 2 ^ sum (take k [])))
field (w ∷ ws) n zero = rw div-one
field (w ∷ ws) n (suc k) = rw (← shr-shr n w (sum (take k ws))) (field ws (n / 2 ^ w) k)

-- fields before and after a place
pub join_append : (ws vs us xs : List ℕ) → length vs ≡ length ws → join (ws ++ us) (vs ++ xs) ≡ join us xs * 2 ^ sum ws + join ws vs
unfolding join
join_append [] [] us xs e = omega arith
join_append [] (v ∷ vs) us xs e = absurd (omega arith)
join_append (w ∷ ws) [] us xs e = absurd (omega arith)
join_append (w ∷ ws) (v ∷ vs) us xs e = rw (join_append ws vs us xs (suc_inj e), add_comm w (sum ws), pow-add, add-mul, mul_assoc, add_assoc)

-- so what stands in the later fields may be laid out in other ones
pub join-later : (ws vs us xs us' xs' : List ℕ) → length vs ≡ length ws → join us xs ≡ join us' xs' → join (ws ++ us) (vs ++ xs) ≡ join (ws ++ us') (vs ++ xs')
join-later ws vs us xs us' xs' e same = rw (join_append ws vs us xs e, join_append ws vs us' xs' e, same)

-- one more field above the others
pub join_snoc : (ws vs : List ℕ) (w v : ℕ) → length vs ≡ length ws → join (ws ++ (w ∷ [])) (vs ++ (v ∷ [])) ≡ join ws vs + v * 2 ^ sum ws
unfolding join
join_snoc ws vs w v e = rw (join_append ws vs (w ∷ []) (v ∷ []), zero-mul, zero-add) (add_comm (v * 2 ^ sum ws) (join ws vs))

-- for a writer: fields added at the place after those that are written
module _ (ws vs us xs : List ℕ) (n at next : ℕ) (e : length vs ≡ length ws) (place : next ≡ at + sum ws) where
  -- are added with them
  pub join-then : n + join ws vs * 2 ^ at + join us xs * 2 ^ next ≡ n + join (ws ++ us) (vs ++ xs) * 2 ^ at
  join-then =
      let a : ℕ = join ws vs * 2 ^ at in
      let b : join us xs * 2 ^ (at + sum ws) ≡ join us xs * 2 ^ sum ws * 2 ^ at = rw (add_comm at (sum ws), pow-add, mul_assoc) in
      rw (place, join_append ws vs us xs e, add-mul) (omega (arith, b))

-- a field by itself
pub join_single : (w v : ℕ) → join (w ∷ []) (v ∷ []) ≡ v
unfolding join
join_single w v = omega arith

-- for a loop that goes from field to field: the next place, and a field written there
pub next_place : (ws : List ℕ) (k : ℕ) → sum (take (suc k) ws) ≡ sum (take k ws) + get_or ws k 0
next_place [] zero = refl
next_place [] (suc k) = refl
next_place (w ∷ ws) zero = add_comm w 0
next_place (w ∷ ws) (suc k) = omega (arith, next_place ws k)

-- the place after k fields of one width
pub sum-replicate : (k w : ℕ) → sum (replicate k w) ≡ k * w
sum-replicate zero w = sym (zero-mul w)
sum-replicate (suc k) w = rw (sum-replicate k w, suc-mul) (add_comm w (k * w))

-- no place is past the end
pub sum-take_le : (ws : List ℕ) (k : ℕ) → sum (take k ws) ≤ sum ws
sum-take_le ws zero = omega arith
sum-take_le [] (suc k) = omega arith
sum-take_le (w ∷ ws) (suc k) = omega (arith, sum-take_le ws k)
