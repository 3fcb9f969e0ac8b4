-- What is found is nearest: each index is the lowest of least distance, and the sums are those of the distances.
use Prim.Native.Nat.{ℕ, suc, ◌+◌, ◌*◌, ◌^◌, ◌≤◌, ◌<◌}
use native.Mathlib.Nat.{mul-le-mul_right}
use native.Mathlib.Omega.{arith}
use mathlib.Core.Path.{◌≡◌, refl, sym, ap, ◌∙◌}
use mathlib.Core.Bool.{Bool, true, false}
use mathlib.Core.List.{List, map}
use lib.Dec.{eqb, ltb}
use lib.ListN.{get_or}
use lib.Pow.{pow_pos}
use borrow.Author.Tests.{ltb-true, ltb-false}
use Rattle.lists.specs.Tests.{pick}
use Rattle.lists.specs.Rows.{up_from, over_pixels}
use Rattle.lists.specs.Digits.{bit}
use Rattle.lists.proofs.Bits.{fits-same, split-join}
use Rattle.lists.proofs.Rows.{get_or-each}
use Rattle.lists.proofs.Sums.{pixels-same, pixels-add}
use Rattle.bptc.specs.declared.Rgb.{Rgb}
use Rattle.bptc.specs.Mode.{Mode, largest}
use Rattle.bptc.specs.Internal.Colour.{black}
use Rattle.bptc.specs.Palette.{nearest_by}
use Rattle.bptc.specs.Internal.Nearest.{nearest_rgb}
use Rattle.bptc.proofs.NearestIndex.{nearest-least, nearest_small}
use Rattle.keys.specs.Keys.{bias}
use Rattle.closest.specs.Found.{index_in, distance_in, indexes_in, found_at, over_second}
use Rattle.closest.specs.Pick.{bias_all}
use Rattle.closest.specs.Nearest.{index_at, distance_at, FindsNearest}
use Rattle.keys.proofs.FirstKey.{to, first_key}

-- a lower index than the first of least distance is farther
lower_farther : (d : ℕ → ℕ) (last j : ℕ) → to d 0 (suc last) last ≤ last → j < to d 0 (suc last) last → d (to d 0 (suc last) last) < d j
lower_farther d last j most h =
    let t : ℕ = to d 0 (suc last) last in
    let least : (d t + 0) * suc last + t ≤ (d j + 0) * suc last + j = first_key d 0 (suc last) last (omega arith) j (omega arith) in
    go t least h (ltb (d t) (d j)) refl
  where
    go : (t : ℕ) → (d t + 0) * suc last + t ≤ (d j + 0) * suc last + j → j < t → (u : Bool) → ltb (d t) (d j) ≡ u → d t < d j
    go t least l true e = ltb-true (d t) (d j) e
    go t least l false e =
        let x : (d j + 0) * suc last ≤ (d t + 0) * suc last = mul-le-mul_right (suc last) (omega (arith, ltb-false (d t) (d j) e)) in
        absurd (omega arith)

module _ (m : Mode) (ends : List Rgb) (p mask : ℕ) (cs : List Rgb) where
  -- the index of pixel i
  index_is : (i : ℕ) → i < 16 → index_at m (found_at m ends p mask cs) i ≡ index_in m ends p mask cs i
  unfolding found_at indexes_in largest
  index_is i h =
      let index : ℕ → ℕ = index_in m ends p mask cs in
      let small : (k : ℕ) → index k < 2 ^ m.index_bits =
      λ k. omega (arith, nearest_small m ends p (bit mask k) (get_or cs k black), pow_pos m.index_bits) in
      ap (λ (ns : List ℕ). get_or ns i 0) (split-join (fits-same m.index_bits (map index (up_from 0 16)) (λ k l. rw (get_or-each 0 index 16 k l) (small k))))
      ∙ get_or-each 0 index 16 i h

  -- its distance
  apart_is : (i : ℕ) → i < 16 → distance_at m ends p mask cs i (index_at m (found_at m ends p mask cs) i) ≡ distance_in m ends p mask cs i
  apart_is i h = ap (distance_at m ends p mask cs i) (index_is i h)

  -- a lower index is farther
  farther : (i j : ℕ) → j < index_in m ends p mask cs i → distance_in m ends p mask cs i < distance_at m ends p mask cs i j
  unfolding nearest_rgb nearest_by
  farther i j h = lower_farther (distance_at m ends p mask cs i) (largest m) j (nearest_small m ends p (bit mask i) (get_or cs i black)) h

  all_is : (found_at m ends p mask cs).all ≡ over_pixels (λ (i : ℕ). distance_at m ends p mask cs i (index_at m (found_at m ends p mask cs) i)) + bias_all cs
  unfolding found_at bias_all
  all_is = pixels-same _ _ (λ i h. ap (λ (n : ℕ). n + bias (get_or cs i black)) (sym (apart_is i h))) ∙ pixels-add _ (λ (i : ℕ). bias (get_or cs i black))

  second_is : (found_at m ends p mask cs).second
      ≡ over_second mask (λ (i : ℕ). distance_at m ends p mask cs i (index_at m (found_at m ends p mask cs) i)) + over_second mask (λ (i : ℕ). bias (get_or cs i black))
  unfolding found_at
  second_is =
      pixels-same _ _ (λ i h. go (eqb (bit mask i) 1) _ _ ∙ ap (λ (n : ℕ). pick (eqb (bit mask i) 1) n 0 + pick (eqb (bit mask i) 1) (bias (get_or cs i black)) 0) (sym (apart_is i h)))
      ∙ pixels-add _ (λ (i : ℕ). pick (eqb (bit mask i) 1) (bias (get_or cs i black)) 0)
    where
      go : (t : Bool) (x y : ℕ) → pick t (x + y) 0 ≡ pick t x 0 + pick t y 0
      go true x y = refl
      go false x y = refl

  -- all of it
  pub finds_nearest : FindsNearest m ends p mask cs (found_at m ends p mask cs)
  finds_nearest =
      record {
        within = λ i h. rw (index_is i h) (nearest_small m ends p (bit mask i) (get_or cs i black));
        least = λ i j h l. rw (index_is i h) (nearest-least m ends p (bit mask i) (get_or cs i black) j l);
        first = λ i j h l. rw (index_is i h) (farther i j (rw (index_is i h) at l));
        all = all_is;
        second = second_is;
      }
