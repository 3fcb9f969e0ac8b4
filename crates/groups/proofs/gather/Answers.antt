-- `groups::gather` meets its contract.
use Rattle.std.proofs.Common.{ℕ, ◌<◌, length, get_or, arith}
use Rattle.lists.proofs.Rows.{written_next}
use Rattle.groups.proofs.gather.Goals as goal

pub loop-i-preserved : goal.loop-i-preserved
loop-i-preserved g c =
    let at = c.loop-i in
    let to₀ = c.args.to.now in
    let f : ℕ → ℕ = λ k. get_or c.args.from.now (g.places k) 0 in
    let h : at.i < length to₀ = omega arith in
    rw (at.invariant, (c.requires.1.1 at.i c.place.result h c.place.ensures).0) (written_next 0 f to₀ at.i h)
