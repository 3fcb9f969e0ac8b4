-- Mode 3 at free p-bits: the first column of least sum is the choice that each subset keeps.
use Prim.Native.Nat.{ℕ, ◌+◌, ◌-◌, ◌*◌, ◌/◌, ◌%◌, ◌<◌}
use native.Mathlib.Omega.{arith}
use mathlib.Core.Path.{◌≡◌, refl, ap, ap₂, ◌∙◌}
use mathlib.Core.List.{List, [], ◌∷◌, map}
use lib.Dec.{eqb, eqb→eq}
use lib.ListN.{get_or, length}
use Rattle.bptc.specs.declared.Rgb.{Rgb}
use Rattle.lists.specs.Tests.{all}
use Rattle.lists.specs.Rows.{up_from}
use Rattle.lists.specs.Least.{first_least}
use Rattle.bptc.specs.Mode.{mode3}
use Rattle.bptc.specs.Shown.{own}
use Rattle.bptc.specs.Internal.Colour.{colours_of}
use Rattle.bptc.proofs.Modes.{is_mode3}
use Rattle.bptc.specs.Internal.Masks.{mask_of, ones_of}
use Rattle.lists.proofs.Rows.{get_or-each, up_from-below}
use Rattle.lists.proofs.Least.{least-same}
use Rattle.lists.proofs.Tables.{tested, two}
use Rattle.bptc_block.specs.declared.PBits.TheVariants.{Free}
use Rattle.bptc_block.specs.Finish.{other_bits}
use Rattle.closest.specs.declared.pick.Picked.{Picked}
use Rattle.closest.specs.Found.{indexes_in}
use Rattle.choices.specs.Choices.{column_bits}
use Rattle.closest.specs.Pick.{mixed, picked_for}
use Rattle.choices.proofs.Picking.{kept, least-own, mixed-picked}
use Rattle.choices.proofs.Subsets.{over}

-- what is left of four sums when four others are taken away
pub four-left : (f g : ℕ → ℕ) (xs ys : List ℕ) → xs ≡ map (λ (c : ℕ). f c + g c) (up_from 0 4) → ys ≡ map g (up_from 0 4) →
    (get_or xs 0 0 - get_or ys 0 0) ∷ ((get_or xs 1 0 - get_or ys 1 0) ∷ ((get_or xs 2 0 - get_or ys 2 0) ∷ ((get_or xs 3 0 - get_or ys 3 0) ∷ []))) ≡ map f (up_from 0 4)
four-left f g xs ys e h =
    let left : (c : ℕ) → f c + g c - g c ≡ f c = λ c. omega arith in
    rw (e, h) (λ t. left 0 t ∷ (left 1 t ∷ (left 2 t ∷ (left 3 t ∷ []))))

-- the p-bits of two columns
pub joined_columns : (i j : ℕ) → i < 4 → j < 4 → (i % 2 * 2 + i / 2) + (j % 2 * 2 + j / 2) * 4 ≡ own mode3 (column_bits i) 0 + own mode3 (column_bits j) 1 * 4
unfolding own column_bits
joined_columns i j h k =
    eqb→eq _ _
    (tested (λ (j : ℕ). eqb ((i % 2 * 2 + i / 2) + (j % 2 * 2 + j / 2) * 4) (own mode3 (column_bits i) 0 + own mode3 (column_bits j) 1 * 4)) 4
    (tested (λ (i : ℕ). all (λ (j : ℕ). eqb ((i % 2 * 2 + i / 2) + (j % 2 * 2 + j / 2) * 4) (own mode3 (column_bits i) 0 + own mode3 (column_bits j) 1 * 4)) (up_from 0 4)) 4 tt i h) j k)

-- the own p-bits of a subset in the columns are tried in this order
columns_tried : (s : ℕ) → s < 2 → (own mode3 (column_bits 0) s ≡ 0) × (map (λ (c : ℕ). own mode3 (column_bits c) s) (1 ∷ (2 ∷ (3 ∷ []))) ≡ other_bits 2)
unfolding own column_bits other_bits
columns_tried =
    two (λ (s : ℕ). (own mode3 (column_bits 0) s ≡ 0) × (map (λ (c : ℕ). own mode3 (column_bits c) s) (1 ∷ (2 ∷ (3 ∷ []))) ≡ other_bits 2)) (refl, refl) (refl, refl)

module _ (part : ℕ) (ends : List Rgb) (px : List ℕ) (long : length px ≡ 48) where
  -- the sum of subset s in column c
  abbrev pub column_sum : ℕ → ℕ → ℕ
  column_sum s c = over mode3 part ends (colours_of px) s (column_bits c)

  module _ (s : ℕ) (sums : List ℕ) (made : sums ≡ map (column_sum s) (up_from 0 4)) (at : ℕ) where
    -- the first of least sum has the own p-bits that the subset keeps
    column_own : s < 2 → at ≡ first_least (λ (k : ℕ). get_or sums k 0) 0 (1 ∷ (2 ∷ (3 ∷ []))) → own mode3 (column_bits at) s ≡ kept mode3 is_mode3 part ends px long s
    column_own two e =
        ap (λ (c : ℕ). own mode3 (column_bits c) s)
        (e ∙ ap (λ (xs : List ℕ). first_least (λ (k : ℕ). get_or xs k 0) 0 (1 ∷ (2 ∷ (3 ∷ [])))) made
        ∙ least-same (λ (k : ℕ). get_or (map (column_sum s) (up_from 0 4)) k 0) (column_sum s) (1 ∷ (2 ∷ (3 ∷ []))) 0 (λ x m. get_or-each 0 (column_sum s) 4 x (up_from-below 4 0 x m)))
        ∙ least-own mode3 is_mode3 part ends px long s two column_bits 0 (1 ∷ (2 ∷ (3 ∷ []))) (columns_tried s two).0 (columns_tried s two).1

    -- and the sum is its own
    pub column_sum_lem : at < 4 → get_or sums at 0 ≡ column_sum s at
    column_sum_lem h = rw made (get_or-each 0 (column_sum s) 4 at h)

  -- both subsets together
  pub free3-picked : (zeros ones words : List ℕ) → zeros ≡ map (column_sum 0) (up_from 0 4) → ones ≡ map (column_sum 1) (up_from 0 4) →
      words ≡ map (λ (c : ℕ). indexes_in mode3 ends (column_bits c) (mask_of part) (colours_of px)) (up_from 0 4) → (i j sum₀ sum₁ : ℕ) →
      i ≡ first_least (λ (k : ℕ). get_or zeros k 0) 0 (1 ∷ (2 ∷ (3 ∷ []))) → sum₀ ≡ get_or zeros i 0 → i < 4 →
      j ≡ first_least (λ (k : ℕ). get_or ones k 0) 0 (1 ∷ (2 ∷ (3 ∷ []))) → sum₁ ≡ get_or ones j 0 → j < 4 →
      ◌≡◌ {A = Picked}
      (record {
        indexes = mixed (get_or words i 0) (get_or words j 0) (ones_of 2 part);
        sum = sum₀ + sum₁;
        p = (i % 2 * 2 + i / 2) + (j % 2 * 2 + j / 2) * 4;
      })
      (picked_for mode3 part ends Free px)
  free3-picked zeros ones words ez eo ew i j s₀ s₁ ei e₀ hi ej e₁ hj =
      let word : ℕ → ℕ = λ (c : ℕ). indexes_in mode3 ends (column_bits c) (mask_of part) (colours_of px) in
      let at : (k : ℕ) → k < 4 → get_or words k 0 ≡ word k = λ k h. rw ew (get_or-each 0 word 4 k h) in
      (λ t. record {
        indexes = ap₂ (λ (x y : ℕ). mixed x y (ones_of 2 part)) (at i hi) (at j hj) t;
        sum = ap₂ ◌+◌ (e₀ ∙ column_sum_lem 0 zeros ez i hi) (e₁ ∙ column_sum_lem 1 ones eo j hj) t;
        p = (i % 2 * 2 + i / 2) + (j % 2 * 2 + j / 2) * 4;
      })
      ∙ mixed-picked mode3 is_mode3 part ends px long (column_bits i) (column_bits j)
      (column_own 0 zeros ez i (omega arith) ei) (column_own 1 ones eo j (omega arith) ej) _ (joined_columns i j hi hj)
