-- `bits::indexes::index_list` meets its contract. The invariant: the first i indices are digits.
use mathlib.Core.Path.{◌≡◌}
use lib.ListN.{take}
use Rattle.bptc_rust.proofs.Digits.{digits}
use Rattle.bits.proofs.indexes.index_list.Given as goal

abbrev pub invariant-loop-i : goal.invariant-loop-i
invariant-loop-i g l = l.indexes ≡ digits g.M.Mode.mode.index_bits (take l.i l.indices)
