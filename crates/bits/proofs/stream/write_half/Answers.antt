-- `bits::stream::write_half` meets its contract. The invariant: the first i bytes are written.
use Prim.Native.Nat.{ℕ}
use native.Mathlib.Omega.{arith}
use lib.ListN.{get_or, length-set}
use mathlib.Core.Path.{◌≡◌, refl}
use borrow.Author.Rules.{rules}
use Rattle.lists.specs.Rows.{written}
use Rattle.lists.specs.Bytes.{bytes}
use Rattle.lists.proofs.Rows.{written_next, written_all, listed}
use Rattle.lists.proofs.Bytes.{length-bytes}
use Rattle.bits.proofs.HalfBytes.{half_at}
use Rattle.bits.proofs.stream.write_half.Goals as goal

pub loop-i-init : goal.loop-i-init
unfolding written
loop-i-init c = (refl, c.requires)

pub loop-i-preserved : goal.loop-i-preserved
loop-i-preserved c = (
  rw (c.loop-i.invariant.0, ← half_at c.args.n c.loop-i.i (search rules) (omega arith)) (written_next 0 (λ (k : ℕ). get_or (bytes 8 c.args.n) k 0) c.args.half.now c.loop-i.i (omega arith)),
  rw length-set c.loop-i.invariant.1,
)

pub returns : goal.returns
returns c =
    let n = c.args.n in
    let all : c.loop-i.i ≡ 8 = omega arith in
    rw (c.loop-i.invariant.0, all, written_all 0 (λ (k : ℕ). get_or (bytes 8 n) k 0) c.args.half.now 8 c.requires) (listed 0 (bytes 8 n) 8 (length-bytes 8 n))
