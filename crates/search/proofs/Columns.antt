-- Laws of the four columns of a pixel, and of the least of them.
use Prim.Native.Nat.{ℕ, ◌<◌}
use native.Mathlib.Omega.{arith}
use mathlib.Core.Path.{◌≡◌, refl}
use mathlib.Core.Bool.{Bool, true, false}
use mathlib.Core.List.{List, [], map}
use lib.Dec.{ltb}
use lib.ListN.{get_or, length, length-map, get_or-eq_default}
use borrow.Author.Tests.{ltb-true, ltb-false}
use Rattle.lists.specs.Rows.{up_from}
use Rattle.lists.proofs.Rows.{length-up_from, get_or-each}
use Rattle.keys.proofs.KeySums.{small_each}

-- four columns for each of sixteen pixels
module _ (f : ℕ → ℕ → ℕ) (columns : List (List ℕ)) (made : columns ≡ map (λ (i : ℕ). map (f i) (up_from 0 4)) (up_from 0 16)) where
  -- the number in column c of pixel i
  pub column_at_lem : (i c : ℕ) → i < 16 → c < 4 → get_or (get_or columns i []) c 0 ≡ f i c
  column_at_lem i c h l = rw (made, get_or-each [] (λ (i : ℕ). map (f i) (up_from 0 4)) 16 i h) (get_or-each 0 (f i) 4 c l)

  -- they are as small as the function's values
  pub columns_small : (top : ℕ) → 0 < top → ((i c : ℕ) → c < 4 → f i c < top) → (i c : ℕ) → get_or (get_or columns i []) c 0 < top
  columns_small top some small i c = rw made (go (ltb i 16) refl)
    where
      go : (t : Bool) → ltb i 16 ≡ t → get_or (get_or (map (λ (i : ℕ). map (f i) (up_from 0 4)) (up_from 0 16)) i []) c 0 < top
      go true e = rw (get_or-each [] (λ (i : ℕ). map (f i) (up_from 0 4)) 16 i (ltb-true i 16 e)) (small_each (f i) 4 top some (small i) c)
      go false e =
          let l : length (map (λ (i : ℕ). map (f i) (up_from 0 4)) (up_from 0 16)) ≡ 16 = simp (length-map, length-up_from) in
          rw (get_or-eq_default (map (λ (i : ℕ). map (f i) (up_from 0 4)) (up_from 0 16)) [] {n = i} (omega (arith, ltb-false i 16 e))) some
