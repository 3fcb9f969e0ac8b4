-- Laws of the subsets' own p-bits: joined and taken apart again, and swapped with their endpoints.
use Prim.Native.Nat.{ℕ, zero, suc, ◌+◌, ◌-◌, ◌*◌, ◌/◌, ◌%◌, ◌^◌, ◌<◌, ◌≤◌}
use native.Mathlib.Nat.{zero-mul, suc-mul, add_comm, mod-lt}
use native.Mathlib.Omega.{arith}
use mathlib.Core.Path.{◌≡◌, refl, sym, ap, ap₂, ◌∙◌}
use mathlib.Core.Bool.{Bool, true, false}
use mathlib.Core.List.{List, map}
use lib.Dec.{T, eqb, eqb→eq}
use lib.ListN.{length, get_or, take, replicate, length-map, length-replicate, get_or-replicate}
use lib.Pow.{pow_pos}
use borrow.Author.Tests.{eqb-true}
use Rattle.lists.specs.Tests.{pick, all}
use Rattle.lists.specs.Rows.{up_from, sum}
use Rattle.lists.specs.Digits.{bit}
use Rattle.lists.proofs.Rows.{length-up_from, get_or-each, each_same, listed}
use Rattle.lists.proofs.Tables.{tested, two}
use Rattle.lists.specs.Internal.Fields.{Fits}
use Rattle.lists.specs.Bits.{split, join}
use Rattle.lists.proofs.Bits.{fits_places, fits-split, fits-length, split-join, join-split, join_lt, field, sum-replicate}
use Rattle.bptc.specs.Mode.{Mode, p_bits}
use Rattle.bptc.specs.Shown.{own, joined_own, own_bit}
use Rattle.bptc_block.specs.Exchange.{swapped_own}

-- the place after some fields of one width
pub sum_front : (n s w : ℕ) → s ≤ n → sum (take s (replicate n w)) ≡ s * w
sum_front n zero w h = sym (zero-mul w)
sum_front zero (suc s) w h = absurd (omega arith)
sum_front (suc n) (suc s) w h = rw (sum_front n s w (omega arith), suc-mul) (add_comm w (s * w))

module _ (m : Mode) where
  -- they have the mode's bits
  pub own_lt : (p s : ℕ) → own m p s < 2 ^ m.own_bits
  unfolding own
  own_lt p s = mod-lt _ (pow_pos m.own_bits)

  -- a field of the number that holds them
  own-field : (p s : ℕ) → s < m.subsets → get_or (split (replicate m.subsets m.own_bits) p) s 0 ≡ own m p s
  unfolding own
  own-field p s h =
      field (replicate m.subsets m.own_bits) p s
      ∙ ap₂ (λ (a b : ℕ). p / 2 ^ a % 2 ^ b) (sum_front m.subsets s m.own_bits (omega arith)) (get_or-replicate m.subsets s m.own_bits 0 h)

  module _ (q : ℕ → ℕ) (small : (s : ℕ) → s < m.subsets → q s < 2 ^ m.own_bits) where
    own-fits : Fits (replicate m.subsets m.own_bits) (map q (up_from 0 m.subsets))
    own-fits =
        fits_places _ _ (length-map (up_from 0 m.subsets) q ∙ length-up_from m.subsets 0 ∙ sym (length-replicate m.subsets m.own_bits))
        (λ s l.
        let h : s < m.subsets = rw length-replicate at l in
        rw (get_or-each 0 q m.subsets s h, get_or-replicate m.subsets s m.own_bits 0 h) (small s h))

    -- each is there again
    pub own-joined : (s : ℕ) → s < m.subsets → own m (joined_own m q) s ≡ q s
    unfolding joined_own
    own-joined s h = sym (own-field _ s h) ∙ ap (λ (l : List ℕ). get_or l s 0) (split-join own-fits) ∙ get_or-each 0 q m.subsets s h

    -- and there are no other bits
    pub joined_lt : joined_own m q < 2 ^ p_bits m
    unfolding joined_own
    joined_lt = rw sum-replicate at (join_lt own-fits)

  -- joined again they are the number
  pub joined-own : (p : ℕ) → p < 2 ^ p_bits m → joined_own m (own m p) ≡ p
  unfolding joined_own
  joined-own p h =
      let ws : List ℕ = replicate m.subsets m.own_bits in
      let l : length (split ws p) ≡ m.subsets = fits-length (fits-split ws p) ∙ length-replicate m.subsets m.own_bits in
      ap (join ws) (each_same 0 (own m p) (λ (s : ℕ). get_or (split ws p) s 0) m.subsets (λ s h. sym (own-field p s h)) ∙ listed 0 (split ws p) m.subsets l)
      ∙ join-split ws p (rw sum-replicate h)

  -- the same in each subset make the same number
  pub joined_same : (q r : ℕ → ℕ) → ((s : ℕ) → s < m.subsets → q s ≡ r s) → joined_own m q ≡ joined_own m r
  unfolding joined_own
  joined_same q r h = ap (join (replicate m.subsets m.own_bits)) (each_same 0 q r m.subsets h)

-- two p-bits that change places
two_places : (q h : ℕ) → q < 4 → h < 2 → bit (q % 2 * 2 + q / 2) h ≡ bit q (1 - h)
two_places q h l k =
    eqb→eq _ _
    (tested (λ (x : ℕ). eqb (bit (x % 2 * 2 + x / 2) h) (bit x (1 - h))) 4
    (two (λ (h : ℕ). T (all (λ (x : ℕ). eqb (bit (x % 2 * 2 + x / 2) h) (bit x (1 - h))) (up_from 0 4))) tt tt h k) q l)

module _ (m : Mode) (q : ℕ) (small : q < 2 ^ m.own_bits) where
  -- swapped they have as many bits
  pub swapped_lt : (t : Bool) → swapped_own m t q < 2 ^ m.own_bits
  unfolding swapped_own
  swapped_lt false = small
  swapped_lt true = go (eqb m.own_bits 2) refl
    where
      go : (t : Bool) → eqb m.own_bits 2 ≡ t → pick t (q % 2 * 2 + q / 2) q < 2 ^ m.own_bits
      go true e =
          let two : m.own_bits ≡ 2 = eqb-true m.own_bits 2 e in
          let four : q < 4 = rw two at small in
          rw two (omega arith)
      go false e = small

  -- and go with their endpoints
  pub swapped_bit : (t : Bool) (h : ℕ) → h < 2 → own_bit m.own_bits (swapped_own m t q) h ≡ own_bit m.own_bits q (pick t (1 - h) h)
  unfolding swapped_own own_bit
  swapped_bit false h l = refl
  swapped_bit true h l = go (eqb m.own_bits 2) refl
    where
      go : (t : Bool) → eqb m.own_bits 2 ≡ t → pick t (bit (pick t (q % 2 * 2 + q / 2) q) h) (pick t (q % 2 * 2 + q / 2) q) ≡ pick t (bit q (1 - h)) q
      go true e =
          let two : m.own_bits ≡ 2 = eqb-true m.own_bits 2 e in
          two_places q h (rw two at small) l
      go false e = refl

-- swapped by one of two tests and not by both
abbrev pub either : Bool → Bool → Bool
either true true = false
either true false = true
either false u = u

-- swapped twice
pub swapped_twice : (m : Mode) (q : ℕ) → q < 2 ^ m.own_bits → (t u : Bool) → swapped_own m u (swapped_own m t q) ≡ swapped_own m (either t u) q
unfolding swapped_own
swapped_twice m q small false u = refl
swapped_twice m q small true false = refl
swapped_twice m q small true true = go (eqb m.own_bits 2) refl
  where
    go : (t : Bool) → eqb m.own_bits 2 ≡ t → pick t (pick t (q % 2 * 2 + q / 2) q % 2 * 2 + pick t (q % 2 * 2 + q / 2) q / 2) (pick t (q % 2 * 2 + q / 2) q) ≡ q
    go true e =
        let two : m.own_bits ≡ 2 = eqb-true m.own_bits 2 e in
        let four : q < 4 = rw two at small in
        omega arith
    go false e = refl

-- a test not passed changes nothing
pub swapped-not : (m : Mode) (q : ℕ) → swapped_own m false q ≡ q
unfolding swapped_own
swapped-not m q = refl
