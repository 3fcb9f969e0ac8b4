-- The places of a mask's bits.
use Prim.Native.Nat.{ℕ, ◌^◌, ◌<◌}
use mathlib.Core.Path.{◌≡◌}
use mathlib.Core.List.{List, [], ◌∷◌}
use lib.Dec.{eqb, eqb→eq}
use lib.ListN.{get_or}
use Rattle.lists.proofs.Tables.{tested}

-- sixteen powers of two
abbrev pub places : List ℕ
places = 1 ∷ 2 ∷ 4 ∷ 8 ∷ 16 ∷ 32 ∷ 64 ∷ 128 ∷ 256 ∷ 512 ∷ 1024 ∷ 2048 ∷ 4096 ∷ 8192 ∷ 16384 ∷ 32768 ∷ []

-- in their order
pub place : (i : ℕ) → i < 16 → get_or places i 0 ≡ 2 ^ i
place i h = eqb→eq _ _ (tested (λ (i : ℕ). eqb (get_or places i 0) (2 ^ i)) 16 tt i h)
