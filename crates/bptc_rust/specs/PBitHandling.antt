-- bc7.rs: the p-bits of a subset, and the first of least error among them.
use Rattle.std.specs.Prelude.{ℕ, Bool, true, false, List, [], ◌∷◌, ltb}
use Rattle.lists.specs.Tests.{pick}
use Rattle.bptc.specs.declared.Rgb.{Rgb}
use Rattle.bptc_rust.specs.Words.{loop}
use Rattle.bptc_rust.specs.Colour.{p_promote}

-- the traits PBitHandling and PBitState: ALL, taken apart, and promote_rgb
pub record PBitHandling (State : Type 0) : Type 0 where
  pub first : State
  pub others : List State
  pub promote_rgb : State → ℕ → Rgb → Rgb → Rgb × Rgb

-- one p-bit for both endpoints: ALL = [false, true]
abbrev pub SharedPBit : PBitHandling Bool
SharedPBit = record {
  first = false;
  others = true ∷ [];
  promote_rgb = λ (self : Bool) (B : ℕ) (c0 c1 : Rgb). (p_promote B c0 self, p_promote B c1 self);
}

-- one for each: ALL = [[false, false], [false, true], [true, false], [true, true]]
abbrev pub UniquePBits : PBitHandling (Bool × Bool)
UniquePBits = record {
  first = (false, false);
  others = (false, true) ∷ (true, false) ∷ (true, true) ∷ [];
  promote_rgb = λ (self : Bool × Bool) (B : ℕ) (c0 c1 : Rgb). (p_promote B c0 self.0, p_promote B c1 self.1);
}

-- the best error, what comes with it, and the state, of possibilities that are not empty
unfoldable pub pick_best_of_directly : {State T : Type 0} → State → List State → (State → ℕ × T) → ℕ × T × State
pick_best_of_directly {State} {T} first others f =
    let start : ℕ × T = f first in
    loop others (start.0, start.1, first)
    (λ (best : ℕ × T × State) (p : State).
    let trial : ℕ × T = f p in
    pick (ltb trial.0 best.0) (trial.0, trial.1, p) best)
