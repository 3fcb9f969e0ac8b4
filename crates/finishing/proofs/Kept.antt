-- What is found in both subsets together is what finishing takes.
use Prim.Native.Nat.{ℕ, ◌+◌, ◌-◌, ◌≤◌, ◌<◌}
use native.Mathlib.Omega.{arith}
use mathlib.Core.Path.{◌≡◌, refl, sym, ap, ◌∙◌}
use mathlib.Core.Bool.{Bool, true, false}
use mathlib.Core.List.{List, [], ◌∷◌}
use lib.Dec.{leb, ltb}
use lib.ListN.{length}
use Rattle.lists.specs.Tests.{pick}
use Rattle.lists.specs.Bytes.{Bytes}
use Rattle.lists.specs.Rows.{over_pixels}
use Rattle.lists.specs.Least.{first_least}
use Rattle.lists.proofs.Tables.{two}
use Rattle.lists.proofs.Least.{strict, least-none, least-next}
use Rattle.bptc.specs.declared.Rgb.{Rgb}
use Rattle.bptc.specs.Mode.{Mode, IsMode, mode1}
use Rattle.bptc.specs.Shown.{own}
use Rattle.bptc.specs.Internal.Masks.{mask_of, ones_of}
use Rattle.bptc.specs.Internal.Colour.{colours_of}
use Rattle.bptc.specs.Internal.Shown.{Stored}
use Rattle.bptc.proofs.Modes.{is_mode1}
use Rattle.bptc_block.specs.declared.PBits.TheVariants.{Free}
use Rattle.bptc_block.specs.Finish.{other_bits}
use Rattle.closest.specs.declared.Found.{Found}
use Rattle.closest.specs.declared.pick.Picked.{Picked}
use Rattle.closest.specs.Found.{biased_in, indexes_in, found_at}
use Rattle.closest.specs.Pick.{mixed, picked_at, picked_for}
use Rattle.choices.proofs.Subsets.{over, over-all}
use Rattle.choices.proofs.Picking.{all_small, over-sum, kept, least-own, mixed-picked}

module _ (m : Mode) (is : IsMode m) (part : ℕ) (ends : List Rgb) (px : List ℕ) (p : ℕ) where
  -- at given p-bits the raised distances in sum are the errors, raised
  pub picked_sum : ◌≡◌ {A = Picked} (record { indexes = indexes_in m ends p (mask_of part) (colours_of px); sum = over_pixels (biased_in m ends p (mask_of part) (colours_of px)); p = p }) (picked_at m part ends px p)
  unfolding picked_at
  picked_sum =
      λ t. record {
        indexes = indexes_in m ends p (mask_of part) (colours_of px);
        sum = over-sum m is part ends (colours_of px) p (over-all m part ends (colours_of px) p) t;
        p = p;
      }

  -- which are small
  pub sum_small : Stored m ends → Bytes px → (picked_at m part ends px p).sum ≤ 6242400
  sum_small stored bytes = rw (← picked_sum) (all_small m is part ends stored px bytes p (mask_of part))

-- the first of two of less error
pub best_of_two : (f : ℕ → ℕ) (x : ℕ) → pick (ltb (f x) (f 0)) x 0 ≡ first_least f 0 (x ∷ [])
best_of_two f x = strict (f 0) (f x) 0 x ∙ sym (least-next f 0 x [] ∙ least-none f (pick (leb (f 0) (f x)) 0 x))

-- mode 1: what is found at 0 and at 3
module _ (part : ℕ) (ends : List Rgb) (px : List ℕ) (a b : Found) (first : a ≡ found_at mode1 ends 0 (mask_of part) (colours_of px)) (next : b ≡ found_at mode1 ends 3 (mask_of part) (colours_of px)) where
  -- what subset s has at p-bits
  abbrev sum_at : ℕ → ℕ → ℕ
  sum_at s p = over mode1 part ends (colours_of px) s p

  -- in what is found
  pub sums1 : ((a.second ≡ sum_at 1 0) × (b.second ≡ sum_at 1 3)) × ((a.all ≡ sum_at 0 0 + sum_at 1 0) × (b.all ≡ sum_at 0 3 + sum_at 1 3))
  unfolding found_at
  sums1 = (
    (ap (λ (t : Found). t.second) first, ap (λ (t : Found). t.second) next),
    (ap (λ (t : Found). t.all) first ∙ over-all mode1 part ends (colours_of px) 0, ap (λ (t : Found). t.all) next ∙ over-all mode1 part ends (colours_of px) 3),
  )

  module _ (long : length px ≡ 48) where
    -- the better of its two has the own p-bits that a subset keeps
    kept1 : (s : ℕ) → s < 2 → own mode1 (pick (ltb (sum_at s 3) (sum_at s 0)) 3 0) s ≡ kept mode1 is_mode1 part ends px long s
    unfolding own other_bits
    kept1 s h =
        ap (λ (p : ℕ). own mode1 p s) (best_of_two (sum_at s) 3)
        ∙ two (λ (s : ℕ). own mode1 (first_least (sum_at s) 0 (3 ∷ [])) s ≡ kept mode1 is_mode1 part ends px long s)
        (least-own mode1 is_mode1 part ends px long 0 (omega arith) (λ (p : ℕ). p) 0 (3 ∷ []) refl refl)
        (least-own mode1 is_mode1 part ends px long 1 (omega arith) (λ (p : ℕ). p) 0 (3 ∷ []) refl refl) s h

    -- both subsets together
    pub free1-picked :
        let t : Bool = ltb (b.all - b.second) (a.all - a.second) in
        let u : Bool = ltb b.second a.second in
        ◌≡◌ {A = Picked}
        (record {
          indexes = mixed (pick t b.indexes a.indexes) (pick u b.indexes a.indexes) (ones_of 3 part);
          sum = pick t (b.all - b.second) (a.all - a.second) + pick u b.second a.second;
          p = pick t 1 0 + pick u 2 0;
        })
        (picked_for mode1 part ends Free px)
    unfolding found_at own
    free1-picked =
        let x : a.all - a.second ≡ sum_at 0 0 = omega (arith, sums1) in
        let y : b.all - b.second ≡ sum_at 0 3 = omega (arith, sums1) in
        rw (x, y, sums1.0.0, sums1.0.1, ap (λ (t : Found). t.indexes) first, ap (λ (t : Found). t.indexes) next)
        (go (ltb (sum_at 0 3) (sum_at 0 0)) (ltb (sum_at 1 3) (sum_at 1 0)) (kept1 0 (omega arith)) (kept1 1 (omega arith)))
      where
        word : ℕ → ℕ
        word p = indexes_in mode1 ends p (mask_of part) (colours_of px)

        keeps : ℕ → ℕ
        keeps s = kept mode1 is_mode1 part ends px long s

        go : (t u : Bool) → own mode1 (pick t 3 0) 0 ≡ keeps 0 → own mode1 (pick u 3 0) 1 ≡ keeps 1 →
            ◌≡◌ {A = Picked}
            (record {
              indexes = mixed (pick t (word 3) (word 0)) (pick u (word 3) (word 0)) (ones_of 3 part);
              sum = pick t (sum_at 0 3) (sum_at 0 0) + pick u (sum_at 1 3) (sum_at 1 0);
              p = pick t 1 0 + pick u 2 0;
            })
            (picked_for mode1 part ends Free px)
        go true true e f = mixed-picked mode1 is_mode1 part ends px long 3 3 e f 3 refl
        go true false e f = mixed-picked mode1 is_mode1 part ends px long 3 0 e f 1 refl
        go false true e f = mixed-picked mode1 is_mode1 part ends px long 0 3 e f 2 refl
        go false false e f = mixed-picked mode1 is_mode1 part ends px long 0 0 e f 0 refl
