-- Laws of the first number for which a test holds, among k numbers from n on.
use Prim.Native.Nat.{ℕ, zero, suc, ◌+◌, ◌<◌, ◌≤◌}
use native.Mathlib.Nat.{eq-or-lt_of_le}
use native.Mathlib.Omega.{arith}
use mathlib.Core.Path.{◌≡◌}
use mathlib.Core.Bool.{Bool, true, false}
use mathlib.Core.Logic.{⊎_elim}
use Rattle.lists.proofs.Tests.{pick_elim}
use Rattle.shades.specs.Shade.{first_where}

module _ (test : ℕ → Bool) where
  -- the first number is not below those that are tried
  pub first-least : (k n : ℕ) → n ≤ first_where test n k
  unfolding first_where
  first-least zero n = omega arith
  first-least (suc k) n =
      pick_elim (λ (w : ℕ). n ≤ w) (test n) (λ t. omega arith) (λ t. omega (arith, first-least k (suc n)))

  -- the first number is at most the one behind those that are tried
  pub first_most : (k n : ℕ) → first_where test n k ≤ n + k
  unfolding first_where
  first_most zero n = omega arith
  first_most (suc k) n =
      pick_elim (λ (w : ℕ). w ≤ n + suc k) (test n) (λ t. omega arith) (λ t. omega (arith, first_most k (suc n)))

  -- the test holds for the first number, unless that is the one behind those that are tried
  pub first_holds : (k n : ℕ) → first_where test n k < n + k → test (first_where test n k) ≡ true
  unfolding first_where
  first_holds zero n h = absurd (omega arith)
  first_holds (suc k) n h =
      pick_elim (λ (w : ℕ). w < n + suc k → test w ≡ true) (test n) (λ t l. t) (λ t l. first_holds k (suc n) (omega arith)) h

  -- the test fails for each number before the first
  pub first_fails : (k n t : ℕ) → n ≤ t → t < first_where test n k → test t ≡ false
  unfolding first_where
  first_fails zero n t l h = absurd (omega arith)
  first_fails (suc k) n t l h =
      pick_elim (λ (w : ℕ). t < w → test t ≡ false) (test n) (λ e m. absurd (omega arith))
      (λ e m. ⊎_elim (λ s. rw (← s) e) (λ s. first_fails k (suc n) t (omega arith) m) (eq-or-lt_of_le l))
      h
