-- `key_numbers::columns::interleaved` meets its contract. The invariant: the first j colours of each row are written.
use Prim.Native.Nat.{◌*◌}
use mathlib.Core.Path.{◌≡◌}
use lib.ListN.{replicate}
use Rattle.lists.specs.Rows.{written}
use Rattle.key_numbers.specs.Numbers.{column_words}
use Rattle.key_numbers.proofs.columns.interleaved.Given as goal

abbrev pub invariant-loop-j : goal.invariant-loop-j
invariant-loop-j l = l.out ≡ written (column_words l.a l.b l.c l.d) (l.j * 4) (replicate 16 0)
