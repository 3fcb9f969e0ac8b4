-- `bits::stream::write_half` meets its contract. The invariant: the first i bytes are written.
use Prim.Native.Nat.{ℕ}
use lib.ListN.{get_or, length}
use mathlib.Core.Path.{◌≡◌}
use Rattle.lists.specs.Rows.{written}
use Rattle.lists.specs.Bytes.{bytes}
use Rattle.bits.proofs.stream.write_half.Given as goal

abbrev pub invariant-loop-i : goal.invariant-loop-i
invariant-loop-i l = (l.half ≡ written (λ (k : ℕ). get_or (bytes 8 l.n) k 0) l.i l.initial.half) × (length l.half ≡ 8)
