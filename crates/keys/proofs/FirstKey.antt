-- The least key has the lowest index of least distance, at any scale above the indices.
use Prim.Native.Nat.{ℕ, zero, suc, ◌+◌, ◌-◌, ◌*◌, ◌≤◌, ◌<◌, min}
use native.Mathlib.Nat.{mul-le-mul_right, suc-mul, le_refl, le_trans, min-le_left, min-le_right, le-min}
use native.Mathlib.Numerals.{one-add}
use native.Mathlib.Omega.{arith}
use mathlib.Core.Path.{◌≡◌, refl, ap, ◌∙◌}
use mathlib.Core.Bool.{Bool, true, false}
use mathlib.Core.List.{[], ◌∷◌}
use lib.Dec.{leb, ltb, eqb}
use borrow.Author.Tests.{leb-true, leb-false, ltb-true, ltb-false, eqb-true, eqb-false}
use Rattle.lists.specs.Tests.{pick}
use Rattle.lists.specs.Rows.{up_from}
use Rattle.lists.specs.Least.{first_least}
use Rattle.lists.proofs.Rows.{up_from-suc, up_from-below}
use Rattle.lists.proofs.Least.{least_append, least-keeps}
use Rattle.keys.specs.Keys.{least_of4}

-- the least of four is no greater than any
pub least4_le : (f : ℕ → ℕ) (c : ℕ) → c < 4 → least_of4 f ≤ f c
least4_le f zero h = omega arith
least4_le f (suc zero) h = omega arith
least4_le f (suc (suc zero)) h = omega arith
least4_le f (suc (suc (suc zero))) h = omega arith
least4_le f (suc (suc (suc (suc c)))) h = absurd (omega arith)

-- and no less than what is no greater than all
pub least4_most : (m : ℕ) (f : ℕ → ℕ) → ((c : ℕ) → c < 4 → m ≤ f c) → m ≤ least_of4 f
least4_most m f h = omega (arith, h 0 (omega arith), h 1 (omega arith), h 2 (omega arith), h 3 (omega arith))

-- the least of a function's values up to the last: none is less, and nothing greater is below all of them
pub record Least (f : ℕ → ℕ) (last t : ℕ) : Type 0 where
  pub below : (j : ℕ) → j ≤ last → t ≤ f j
  pub most : (m : ℕ) → ((j : ℕ) → j ≤ last → m ≤ f j) → m ≤ t

-- the least of four
pub least_of_4 : (f : ℕ → ℕ) → Least f 3 (least_of4 f)
least_of_4 f = record { below = λ j h. least4_le f j (omega arith); most = λ m h. least4_most m f (λ c l. h c (omega arith)) }

-- the least of eight, in four columns of two
pub least_of_8 : (f : ℕ → ℕ) → Least f 7 (least_of4 (λ (c : ℕ). min (f c) (f (c + 4))))
least_of_8 f =
    record {
      below = λ j h. go j h (ltb j 4) refl;
      most = λ m h. least4_most m _ (λ c l. le-min (h c (omega arith)) (h (c + 4) (omega arith)));
    }
  where
    go : (j : ℕ) → j ≤ 7 → (t : Bool) → ltb j 4 ≡ t → least_of4 (λ (c : ℕ). min (f c) (f (c + 4))) ≤ f j
    go j h true e = le_trans (least4_le (λ (c : ℕ). min (f c) (f (c + 4))) j (ltb-true j 4 e)) (min-le_left (f j) (f (j + 4)))
    go j h false e =
        let k : j - 4 + 4 ≡ j = omega (arith, ltb-false j 4 e) in
        rw (← k) (le_trans (least4_le (λ (c : ℕ). min (f c) (f (c + 4))) (j - 4) (omega arith)) (min-le_right (f (j - 4)) (f (j - 4 + 4))))

module _ (d : ℕ → ℕ) (raise scale : ℕ) where
  -- the key of index j
  abbrev pub key : ℕ → ℕ
  key j = (d j + raise) * scale + j

  -- the first index of least distance up to k
  abbrev pub to : ℕ → ℕ
  to k = first_least d 0 (up_from 1 k)

  to_next : (k : ℕ) → to (suc k) ≡ pick (leb (d (to k)) (d (suc k))) (to k) (suc k)
  unfolding first_least
  to_next k =
      ap (first_least d 0) (up_from-suc k 1) ∙ least_append d (up_from 1 k) ((1 + k) ∷ []) 0
      ∙ ap (λ (n : ℕ). pick (leb (d (to k)) (d n)) (to k) n) (one-add k)

  -- it is one of them
  pub to_small : (k : ℕ) → to k ≤ k
  to_small k = least-keeps d (λ (i : ℕ). i ≤ k) (up_from 1 k) 0 (λ i h. omega (arith, up_from-below (suc k) 0 i h))

  kept : (v n : ℕ) → d v ≤ d n → v ≤ n → key v ≤ key n
  kept v n h l =
      let x : (d v + raise) * scale ≤ (d n + raise) * scale = mul-le-mul_right scale (omega arith) in
      omega arith

  taken : (v n : ℕ) → d n < d v → n < scale → key n ≤ key v
  taken v n h l =
      let x : suc (d n + raise) * scale ≤ (d v + raise) * scale = mul-le-mul_right scale (omega arith) in
      omega (arith, suc-mul (d n + raise) scale)

  -- its key is the least
  pub first_key : (k : ℕ) → k < scale → (j : ℕ) → j ≤ k → key (to k) ≤ key j
  unfolding first_least
  first_key zero h j l =
      let e : j ≡ 0 = omega arith in
      rw e (le_refl (key 0))
  first_key (suc k) h j l = rw (to_next k) (go (first_key k (omega arith)) (leb (d (to k)) (d (suc k))) refl (eqb j (suc k)) refl)
    where
      go : ((i : ℕ) → i ≤ k → key (to k) ≤ key i) → (t : Bool) → leb (d (to k)) (d (suc k)) ≡ t → (u : Bool) → eqb j (suc k) ≡ u → key (pick t (to k) (suc k)) ≤ key j
      go before true e true f = rw (eqb-true j (suc k) f) (kept (to k) (suc k) (leb-true _ _ e) (omega (arith, to_small k)))
      go before true e false f = before j (omega (arith, eqb-false j (suc k) f))
      go before false e true f = rw (eqb-true j (suc k) f) (le_refl (key (suc k)))
      go before false e false f =
          omega (arith, taken (to k) (suc k) (leb-false _ _ e) h, before j (omega (arith, eqb-false j (suc k) f)))

  -- so the least of the keys tells the index and its distance
  pub least-key : (last t : ℕ) → last < scale → Least key last t → t ≡ (d (to last) + raise) * scale + to last
  least-key last t h l =
      omega (arith, l.below (to last) (to_small last), l.most (key (to last)) (first_key last h))
