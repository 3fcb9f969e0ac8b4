-- The numbers of the refusals tell them apart, and none is 0.
use Prim.Native.Nat.{ℕ}
use native.Mathlib.Omega.{arith}
use mathlib.Core.Path.{◌≡◌, refl, sym, ap, ◌∙◌}
use mathlib.Core.Bool.{true, false}
use mathlib.Core.List.{[], ◌∷◌}
use lib.ListN.{get_or}
use Rattle.std.proofs.Common.{Result, Ok, Err}
use Rattle.std.specs.Result.{is_ok}
use Rattle.refusals.specs.declared.Refusal.{Refusal}
use Rattle.refusals.specs.declared.Refusal.TheVariants.{PixelPart, BlockPart, Mode, Partition, Channel, PBits, Index, Reserved, OtherMode}
use Rattle.refusals.specs.Numbers.{number_of, declined, SomeNumber, Distinct}

-- the refusals from number 1 on, the last at every number that is left
refusal_of : ℕ → Refusal
refusal_of n =
    get_or (OtherMode ∷ PixelPart ∷ BlockPart ∷ Mode ∷ Partition ∷ Channel ∷ PBits ∷ Index ∷ Reserved ∷ []) n OtherMode

again : (r : Refusal) → refusal_of (number_of r) ≡ r
unfolding refusal_of
again PixelPart = refl
again BlockPart = refl
again Mode = refl
again Partition = refl
again Channel = refl
again PBits = refl
again Index = refl
again Reserved = refl
again OtherMode = refl

pub distinct : Distinct
distinct a b e = sym (again a) ∙ ap refusal_of e ∙ again b

pub some_number : SomeNumber
some_number PixelPart e = absurd (omega arith)
some_number BlockPart e = absurd (omega arith)
some_number Mode e = absurd (omega arith)
some_number Partition e = absurd (omega arith)
some_number Channel e = absurd (omega arith)
some_number PBits e = absurd (omega arith)
some_number Index e = absurd (omega arith)
some_number Reserved e = absurd (omega arith)
some_number OtherMode e = absurd (omega arith)

-- an answer that is Ok declines nothing
pub passes : (answer : Result (Unit {0}) Refusal) → is_ok answer ≡ true → declined answer ≡ 0
passes (Ok done) e = refl
passes (Err r) e = absurd cc

-- and any other declines
pub declines : (answer : Result (Unit {0}) Refusal) → is_ok answer ≡ false → declined answer ≡ 0 → ⊥
declines (Ok done) e = absurd cc
declines (Err r) e = some_number r
