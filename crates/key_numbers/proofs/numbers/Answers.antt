-- `key_numbers::numbers` meets its contract. The invariant: the numbers of the first k colours are written.
use native.Mathlib.Omega.{arith}
use Prim.Native.Nat.{ℕ, ◌+◌}
use mathlib.Core.Path.{◌≡◌, ap₂, ◌∙◌}
use mathlib.Core.List.{◌++◌}
use lib.ListN.{replicate, length-replicate}
use Rattle.std.proofs.lemmas.List.{replicate-append-replicate}
use Rattle.lists.specs.Rows.{written}
use Rattle.lists.proofs.Rows.{written_all}
use Rattle.lists.proofs.Writing.{quarters_next}
use Rattle.bptc.specs.Internal.Pixels.{pixel_of}
use Rattle.key_numbers.specs.Numbers.{numbers_of}
use Rattle.key_numbers.proofs.numbers.Goals as goal

pub loop-k-init : goal.loop-k-init
unfolding written
loop-k-init g c =
    let n = g.row.N in
    let e : n + (n + (n + n)) ≡ g.row.ALL = omega arith in
    rw (replicate-append-replicate {A = ℕ} n n 0, replicate-append-replicate {A = ℕ} n (n + n) 0, replicate-append-replicate {A = ℕ} n (n + (n + n)) 0, e)

pub loop-k-preserved : goal.loop-k-preserved
unfolding pixel_of
loop-k-preserved g c =
    let at = c.loop-k in
    rw (at.invariant, c.step.ensures, c.step-in-loop-k.ensures, c.step-in-loop-k-2.ensures, c.alone.ensures) (quarters_next g.row.N at.k (omega arith) _ _ _ _)

pub returns : goal.returns
unfolding numbers_of
returns g c =
    let at = c.loop-k in
    let n = g.row.N in
    let e : at.k ≡ n = omega arith in
    let l = length-replicate n 0 in
    rw e at at.invariant
    ∙ ap₂ ◌++◌ (written_all 0 _ (replicate n 0) n l)
    (ap₂ ◌++◌ (written_all 0 _ (replicate n 0) n l) (ap₂ ◌++◌ (written_all 0 _ (replicate n 0) n l) (written_all 0 _ (replicate n 0) n l)))
