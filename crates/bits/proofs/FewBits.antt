-- The bits of an index.
use Prim.Native.Nat.{◌≤◌}
use native.Mathlib.Omega.{arith}
use Rattle.bptc.specs.Mode.{Mode, IsMode}
use Rattle.bptc.proofs.Modes.{by_mode}

-- there are at most three
pub few_bits : (m : Mode) → IsMode m → m.index_bits ≤ 3
few_bits = by_mode (λ (m : Mode). m.index_bits ≤ 3) (omega arith) (omega arith)
