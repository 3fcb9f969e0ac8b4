-- pick_best_of_directly, whose test is strict, keeps the first state of least error.
use Prim.Native.Nat.{ℕ}
use mathlib.Core.Path.{◌≡◌, refl, sym, ap, ◌∙◌, subst, subst₂}
use mathlib.Core.List.{List, [], ◌∷◌, map}
use lib.Dec.{leb, ltb}
use Rattle.lists.specs.Tests.{pick}
use Rattle.lists.specs.Least.{first_least}
use Rattle.lists.proofs.Tests.{pick-map}
use Rattle.lists.proofs.Least.{strict}
use Rattle.bptc_rust.specs.Words.{loop}
use Rattle.bptc_rust.specs.PBitHandling.{pick_best_of_directly}

-- the state that is kept, with its error and its indexes, is the first of least error
pub record Best {State : Type 0} (num : State → ℕ) (err idx : ℕ → ℕ) (r : ℕ × ℕ × State) (w : ℕ) : Type 0 where
  pub state : State
  pub result : r ≡ (err (num state), idx (num state), state)
  pub least : num state ≡ w

module _ {State : Type 0} (num : State → ℕ) (err idx : ℕ → ℕ) (f : State → ℕ × ℕ) (gives : (p : State) → f p ≡ (err (num p), idx (num p))) where
  -- what is kept of a state
  abbrev kept : State → ℕ × ℕ × State
  kept p = (err (num p), idx (num p), p)

  -- one step of the loop
  abbrev body : ℕ × ℕ × State → State → ℕ × ℕ × State
  body best p = pick (ltb (f p).0 best.0) ((f p).0, (f p).1, p) best

  -- the one of two that is kept
  abbrev kept_of : State → State → State
  kept_of b p = pick (leb (err (num b)) (err (num p))) b p

  step : (b p : State) → body (kept b) p ≡ kept (kept_of b p)
  step b p =
      ap {B = ℕ × ℕ × State} (λ (t : ℕ × ℕ). pick (ltb t.0 (err (num b))) (t.0, t.1, p) (kept b)) (gives p)
      ∙ strict (err (num b)) (err (num p)) (kept b) (kept p)
      ∙ sym (pick-map kept (leb (err (num b)) (err (num p))) b p)

  best_on : (others : List State) (b : State) → Best num err idx (loop others (kept b) body) (first_least err (num b) (map num others))
  unfolding first_least
  best_on [] b = record { state = b; result = refl; least = refl }
  best_on (p ∷ ps) b =
      subst₂ (λ (s : ℕ × ℕ × State) (q : ℕ). Best num err idx (loop ps s body) (first_least err q (map num ps)))
      (sym (step b p)) (pick-map num (leb (err (num b)) (err (num p))) b p) (best_on ps (kept_of b p))

  -- pick_best_of_directly
  pub best_directly : (first : State) (others : List State) → Best num err idx (pick_best_of_directly first others f) (first_least err (num first) (map num others))
  unfolding pick_best_of_directly
  best_directly first others =
      subst (λ (s : ℕ × ℕ). Best num err idx (loop others (s.0, s.1, first) body) (first_least err (num first) (map num others))) (sym (gives first)) (best_on others first)
