-- `closest::indexes::word` meets its contract. The invariant: the last i indices of each half are joined.
use Prim.Native.Nat.{ℕ, ◌-◌, ◌*◌, ◌%◌, ◌^◌, ◌<◌}
use mathlib.Core.Path.{◌≡◌}
use mathlib.Core.List.{List}
use lib.ListN.{get_or}
use Rattle.closest.proofs.Joining.{joined_from}
use Rattle.closest.proofs.indexes.word.Given as goal

-- the index of pixel i
abbrev pub index : ℕ → List ℕ → ℕ → ℕ
index bits best i = get_or best i 0 % 2 ^ bits

abbrev pub invariant-loop-i : goal.invariant-loop-i
invariant-loop-i l =
    ((l.lo ≡ joined_from l.bits (index l.bits l.best) (8 - l.i) l.i) × (l.lo < 2 ^ (l.bits * l.i)))
    × ((l.hi ≡ joined_from l.bits (index l.bits l.best) (16 - l.i) l.i) × (l.hi < 2 ^ (l.bits * l.i)))
