-- The search's numbers of any colours are in range, and give the colours' keys.
use Prim.Native.Nat.{ℕ, ◌+◌, ◌-◌, ◌*◌, ◌≤◌, ◌<◌}
use native.Mathlib.Omega.{arith}
use mathlib.Core.Path.{◌≡◌, refl, ap, ap₂, ◌∙◌}
use mathlib.Core.Bool.{Bool, true, false}
use mathlib.Core.List.{List, ◌++◌}
use lib.Dec.{ltb}
use lib.ListN.{get_or, length, length-append, length-map}
use borrow.Author.Tests.{ltb-true, ltb-false}
use Rattle.lists.proofs.Rows.{length-up_from, get_or-each, each_front, each_past, each_same}
use Rattle.bptc.specs.declared.Rgb.{Rgb}
use Rattle.bptc.specs.Internal.Colour.{Below, dot}
use Rattle.keys.specs.Keys.{own_of, step_of, sum_key, key_at, Steps}
use Rattle.key_numbers.specs.Numbers.{numbers_of, steps_of}
use Rattle.keys.proofs.KeySums.{norm-byte}

-- the numbers of n colours, each with its index, at a scale
module _ (scale n : ℕ) (colour : ℕ → Rgb) (index : ℕ → ℕ) where
  -- the steps of red, green and blue
  abbrev reds : ℕ → ℕ
  reds k = step_of scale (colour k).r

  abbrev greens : ℕ → ℕ
  greens k = step_of scale (colour k).g

  abbrev blues : ℕ → ℕ
  blues k = step_of scale (colour k).b

  -- what stands at place k of each quarter
  module _ (k : ℕ) (h : k < n) where
    red_at : get_or (numbers_of scale n colour index) k 0 ≡ reds k
    unfolding numbers_of
    red_at = each_front 0 reds n k _ h

    green_at : get_or (numbers_of scale n colour index) (k + n) 0 ≡ greens k
    unfolding numbers_of
    green_at = each_past 0 reds n k (k + n) _ refl ∙ each_front 0 greens n k _ h

    blue_at : get_or (numbers_of scale n colour index) (k + n * 2) 0 ≡ blues k
    unfolding numbers_of
    blue_at =
        each_past 0 reds n (k + n) (k + n * 2) _ (omega arith) ∙ each_past 0 greens n k (k + n) _ refl ∙ each_front 0 blues n k _ h

    own_at : get_or (numbers_of scale n colour index) (k + n * 3) 0 ≡ own_of scale (colour k) (index k)
    unfolding numbers_of
    own_at =
        each_past 0 reds n (k + n * 2) (k + n * 3) _ (omega arith) ∙ each_past 0 greens n (k + n) (k + n * 2) _ (omega arith)
        ∙ each_past 0 blues n k (k + n) _ refl ∙ get_or-each 0 (λ (k : ℕ). own_of scale (colour k) (index k)) n k h

    -- the key by the numbers at that place
    pub made-key : (p : Rgb) → key_at n (numbers_of scale n colour index) p k ≡ sum_key scale p (colour k) (index k)
    unfolding key_at sum_key dot
    made-key p = rw (red_at, green_at, blue_at, own_at) (omega arith)

  -- a number of a channel is a step
  channel-step : (top : ℕ) → ((x : ℕ) → step_of scale x ≤ top) → (k : ℕ) → k < n * 3 → get_or (numbers_of scale n colour index) k 0 ≤ top
  channel-step top small k h = go (ltb k n) refl (ltb k (n * 2)) refl
    where
      go : (t : Bool) → ltb k n ≡ t → (u : Bool) → ltb k (n * 2) ≡ u → get_or (numbers_of scale n colour index) k 0 ≤ top
      go true e u f = rw (red_at k (ltb-true k n e)) (small (colour k).r)
      go false e true f =
          let at : k - n + n ≡ k = omega (arith, ltb-false k n e) in
          let inside : k - n < n = omega (arith, ltb-true k (n * 2) f) in
          rw at at (rw (← green_at (k - n) inside) at (small (colour (k - n)).g))
      go false e false f =
          let at : k - n * 2 + n * 2 ≡ k = omega (arith, ltb-false k (n * 2) f) in
          let inside : k - n * 2 < n = omega (arith, ltb-false k (n * 2) f) in
          rw at at (rw (← blue_at (k - n * 2) inside) at (small (colour (k - n * 2)).b))

  numbers_length : length (numbers_of scale n colour index) ≡ n * 4
  unfolding numbers_of
  numbers_length = simp (length-append, length-map, length-up_from) (omega arith)

-- in range where the scale is 8
pub made_range : (n : ℕ) (colour : ℕ → Rgb) (index : ℕ → ℕ) → ((k : ℕ) → k < n → Below 256 (colour k)) → ((k : ℕ) → index k < 8) → Steps n (numbers_of 8 n colour index)
unfolding step_of own_of
made_range n colour index bytes low =
    record {
      whole = numbers_length 8 n colour index;
      channel = channel-step 8 n colour index 4080 (λ x. omega arith);
      alone = λ k h. rw (own_at 8 n colour index k h) (omega (arith, norm-byte (colour k) (bytes k h), low k));
    }

-- numbers of the same colours
pub numbers_same : (scale n : ℕ) (f g : ℕ → Rgb) (index : ℕ → ℕ) → ((k : ℕ) → k < n → f k ≡ g k) → numbers_of scale n f index ≡ numbers_of scale n g index
unfolding numbers_of
numbers_same scale n f g index h =
    ap₂ ◌++◌ (each_same 0 _ _ n (λ k l. ap (λ (c : Rgb). step_of scale c.r) (h k l)))
    (ap₂ ◌++◌ (each_same 0 _ _ n (λ k l. ap (λ (c : Rgb). step_of scale c.g) (h k l)))
    (ap₂ ◌++◌ (each_same 0 _ _ n (λ k l. ap (λ (c : Rgb). step_of scale c.b) (h k l))) (each_same 0 _ _ n (λ k l. ap (λ (c : Rgb). own_of scale c (index k)) (h k l)))))

-- and of the same indices
pub numbers_indexed : (scale n : ℕ) (colour : ℕ → Rgb) (f g : ℕ → ℕ) → ((k : ℕ) → k < n → f k ≡ g k) → numbers_of scale n colour f ≡ numbers_of scale n colour g
unfolding numbers_of
numbers_indexed scale n colour f g h =
    ap (λ (own : List ℕ). steps_of scale n (λ (k : ℕ). (colour k).r) ++ (steps_of scale n (λ (k : ℕ). (colour k).g) ++ (steps_of scale n (λ (k : ℕ). (colour k).b) ++ own)))
    (each_same 0 _ _ n (λ k l. ap (own_of scale (colour k)) (h k l)))
