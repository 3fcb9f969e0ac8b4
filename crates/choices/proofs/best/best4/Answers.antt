-- `choices::best::best4` meets its contract.
use Prim.Native.Nat.{ℕ}
use mathlib.Core.Path.{refl}
use lib.ListN.{get_or}
use Rattle.choices.proofs.BestOfFour.{best_four}
use Rattle.choices.proofs.best.best4.Goals as goal

pub returns-clause-at : goal.returns-clause-at
returns-clause-at c =
    (best_four (λ (k : ℕ). get_or c.args.s k 0) _ _ _ _ _ _ c.either-m.ensures c.either-i.ensures c.either-n.ensures c.either-j.ensures refl c.either.ensures).0
