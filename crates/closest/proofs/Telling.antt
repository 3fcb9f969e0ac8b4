-- What least keys tell: the nearest indices as one number, and the raised distances in sum.
use Prim.Native.Nat.{ℕ, ◌+◌, ◌*◌, ◌/◌, ◌%◌, ◌^◌, ◌≤◌, ◌<◌}
use native.Mathlib.Omega.{arith}
use mathlib.Core.Path.{◌≡◌, ap, ◌∙◌}
use mathlib.Core.List.{List, map}
use lib.Arith.{digits_div}
use lib.Dec.{eqb}
use lib.ListN.{get_or, replicate}
use Rattle.bptc.specs.declared.Rgb.{Rgb}
use Rattle.lists.specs.Tests.{pick}
use Rattle.lists.specs.Rows.{up_from, over_pixels}
use Rattle.lists.specs.Digits.{bit}
use Rattle.bptc.specs.Mode.{Mode, IsMode, largest}
use Rattle.bptc.specs.Internal.Colour.{black}
use Rattle.lists.proofs.Rows.{get_or-each, each_same}
use Rattle.lists.proofs.Sums.{pixels-same}
use Rattle.bptc.proofs.Modes.{by_mode}
use Rattle.bptc.proofs.NearestIndex.{nearest_small}
use Rattle.lists.specs.Bits.{join}
use Rattle.closest.specs.declared.Found.{Found}
use Rattle.closest.specs.Found.{index_in, biased_in, least_keys, indexes_in, over_second, found_at}

module _ (m : Mode) (few : largest m < 8) (ends : List Rgb) (p mask : ℕ) (cs : List Rgb) (best : ℕ → ℕ)
    (told : (i : ℕ) → i < 16 → best i ≡ biased_in m ends p mask cs i * 8 + index_in m ends p mask cs i) where
  -- the nearest indices, by a number of which 8 is a multiple
  pub tell_indexes : (base : ℕ) → ((x n : ℕ) → n ≤ largest m → (x * 8 + n) % base ≡ n) →
      join (replicate 16 m.index_bits) (map (λ (i : ℕ). best i % base) (up_from 0 16)) ≡ indexes_in m ends p mask cs
  unfolding indexes_in
  tell_indexes base digit =
      ap (join (replicate 16 m.index_bits))
      (each_same 0 _ _ 16 (λ i h. ap (λ (n : ℕ). n % base) (told i h) ∙ digit _ _ (nearest_small m ends p (bit mask i) (get_or cs i black))))

  tell : (i : ℕ) → i < 16 → best i / 8 ≡ biased_in m ends p mask cs i
  tell i h =
      let l : index_in m ends p mask cs i < 8 = omega (arith, nearest_small m ends p (bit mask i) (get_or cs i black)) in
      ap (λ (n : ℕ). n / 8) (told i h) ∙ digits_div _ l

  -- the raised distances
  pub tell_all : over_pixels (λ (i : ℕ). best i / 8) ≡ over_pixels (biased_in m ends p mask cs)
  tell_all = pixels-same _ _ tell

  -- and those of subset 1
  pub tell_second : over_second mask (λ (i : ℕ). best i / 8) ≡ over_second mask (biased_in m ends p mask cs)
  tell_second = pixels-same _ _ (λ i h. ap (λ (n : ℕ). pick (eqb (bit mask i) 1) n 0) (tell i h))

  -- all three make what is found
  pub found_is : (base : ℕ) → ((x n : ℕ) → n ≤ largest m → (x * 8 + n) % base ≡ n) → {indexes all second : ℕ} →
      indexes ≡ join (replicate 16 m.index_bits) (map (λ (i : ℕ). best i % base) (up_from 0 16)) → all ≡ over_pixels (λ (i : ℕ). best i / 8) → second ≡ over_second mask (λ (i : ℕ). best i / 8) →
      ◌≡◌ {A = Found} (record { indexes = indexes; all = all; second = second }) (found_at m ends p mask cs)
  unfolding found_at
  found_is base digit e f g = λ t. record { indexes = (e ∙ tell_indexes base digit) t; all = (f ∙ tell_all) t; second = (g ∙ tell_second) t }

-- the least keys tell it
pub keys_tell : (m : Mode) (ends : List Rgb) (p mask : ℕ) (cs : List Rgb) (best : List ℕ) → best ≡ least_keys m ends p mask cs →
    (i : ℕ) → i < 16 → get_or best i 0 ≡ biased_in m ends p mask cs i * 8 + index_in m ends p mask cs i
unfolding least_keys
keys_tell m ends p mask cs best e i h =
    rw e (get_or-each 0 (λ (i : ℕ). biased_in m ends p mask cs i * 8 + index_in m ends p mask cs i) 16 i h)

-- and the index is the key's lowest digit
pub index_digit : (m : Mode) → IsMode m → (x n : ℕ) → n ≤ largest m → (x * 8 + n) % 2 ^ m.index_bits ≡ n
unfolding largest
index_digit =
    by_mode (λ (m : Mode). (x n : ℕ) → n ≤ largest m → (x * 8 + n) % 2 ^ m.index_bits ≡ n) (λ x n h. omega arith) (λ x n h. omega arith)
