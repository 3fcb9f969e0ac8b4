-- The own p-bits that are tried: all that a subset may have, and no others.
use Prim.Native.Nat.{ℕ, zero, suc, ◌^◌, ◌≤◌, ◌<◌}
use native.Mathlib.Omega.{arith}
use mathlib.Core.Bool.{Bool}
use mathlib.Core.List.Memᴰ
use mathlib.Core.List.{List, ◌∷◌, Memᴰ}
use lib.Dec.{T, eqb, ltb, eqb→eq, ltb→lt}
use Rattle.lists.specs.Tests.{and, all}
use Rattle.lists.specs.Rows.{up_from}
use Rattle.lists.proofs.Tests.{and_left, and_right}
use Rattle.lists.proofs.Tables.{tested, all_of, any, any_of}
use Rattle.bptc_block.specs.Finish.{other_bits}

-- the own p-bits that are tried, in their order
abbrev pub choices : ℕ → List ℕ
choices own = 0 ∷ other_bits own

-- of a subset that has so many
abbrev test : ℕ → Bool
test own = and (all (λ (q : ℕ). any (eqb q) (choices own)) (up_from 0 (2 ^ own))) (all (λ (q : ℕ). ltb q (2 ^ own)) (choices own))

passes : (own : ℕ) → own ≤ 2 → T (test own)
unfolding other_bits
passes zero h = tt
passes (suc zero) h = tt
passes (suc (suc zero)) h = tt
passes (suc (suc (suc n))) h = absurd (omega arith)

module _ (own : ℕ) (narrow : own ≤ 2) where
  -- whatever a subset may have is among them
  pub complete : (q : ℕ) → q < 2 ^ own → Memᴰ q (choices own)
  complete q h =
      let (x, there, e) = any_of (eqb q) (choices own) (tested (λ (q : ℕ). any (eqb q) (choices own)) (2 ^ own) (and_left (all (λ (q : ℕ). any (eqb q) (choices own)) (up_from 0 (2 ^ own))) _ (passes own narrow)) q h) in
      Memᴰ.cast (eqb→eq q x e) there

  -- and they are within its bits
  pub tried : (q : ℕ) → Memᴰ q (choices own) → q < 2 ^ own
  tried q there =
      ltb→lt _ _ (all_of (λ (q : ℕ). ltb q (2 ^ own)) (choices own) (and_right (all (λ (q : ℕ). any (eqb q) (choices own)) (up_from 0 (2 ^ own))) _ (passes own narrow)) q there)
