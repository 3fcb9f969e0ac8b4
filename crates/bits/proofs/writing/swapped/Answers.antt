-- `bits::writing::swapped` meets its contract.
use Prim.Native.Nat.{ℕ}
use native.Mathlib.Omega.{arith}
use mathlib.Core.Bool.{Bool, true, false}
use mathlib.Core.Path.{◌≡◌, refl}
use mathlib.Core.List.{List, [], ◌∷◌, map}
use lib.ListN.{length}
use borrow.Author.Rules.{rules}
use Rattle.std.specs.List.{swap}
use Rattle.lists.specs.Tests.{pick}
use Rattle.bptc.specs.Internal.Pixels.{pixel_of}
use Rattle.bptc_block.specs.Internal.Swaps.{swapped_ends}
use Rattle.bits.proofs.writing.swapped.Goals.{then-swap0, else-swap0}
use Rattle.bits.proofs.writing.swapped.Goals as goal

-- both exchanges
both : (ends : List ℕ) (t u : Bool) → length ends ≡ 4 →
    map pixel_of (pick u (swap (pick t (swap ends 0 1) ends) 2 3) (pick t (swap ends 0 1) ends)) ≡ swapped_ends (map pixel_of ends) t u
both (a ∷ (b ∷ (c ∷ (d ∷ [])))) true true e = refl
both (a ∷ (b ∷ (c ∷ (d ∷ [])))) true false e = refl
both (a ∷ (b ∷ (c ∷ (d ∷ [])))) false true e = refl
both (a ∷ (b ∷ (c ∷ (d ∷ [])))) false false e = refl
both [] t u e = absurd (omega arith)
both (a ∷ []) t u e = absurd (omega arith)
both (a ∷ (b ∷ [])) t u e = absurd (omega arith)
both (a ∷ (b ∷ (c ∷ []))) t u e = absurd (omega arith)
both (a ∷ (b ∷ (c ∷ (d ∷ (x ∷ xs))))) t u e = absurd (omega arith)

pub returns-then-swap1 : goal.returns-then-swap1
returns-then-swap1 c =
    let e = c.args.ends in
    elim c.if-swap0.branch [
      | then-swap0 w ↦ rw (c.swap-then-swap1.ensures.after, w.ends-is, w.swap.ensures.after, c.if-swap1.true, w.if-swap0.true) (both e true true (search rules))
      | else-swap0 w ↦ rw (c.swap-then-swap1.ensures.after, w.ends-is, c.if-swap1.true, w.if-swap0.false) (both e false true (search rules))
    ]

pub returns-else-swap1 : goal.returns-else-swap1
returns-else-swap1 c =
    let e = c.args.ends in
    elim c.if-swap0.branch [
      | then-swap0 w ↦ rw (w.ends-is, w.swap.ensures.after, c.if-swap1.false, w.if-swap0.true) (both e true false (search rules))
      | else-swap0 w ↦ rw (w.ends-is, c.if-swap1.false, w.if-swap0.false) (both e false false (search rules))
    ]
