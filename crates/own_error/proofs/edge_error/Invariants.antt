-- `own_error::edge_error` meets its contract. The invariant: the sum over the own pixels among the first i.
use Rattle.std.proofs.Common.{ℕ, ◌≡◌, ◌*◌, ◌≤◌}
use Rattle.lists.specs.Rows.{sum_to}
use Rattle.lists.specs.Tests.{pick}
use Rattle.bptc_block.specs.RoundTrip.{pixels_apart}
use Rattle.own_error.specs.Own.{own_pixel}
use Rattle.own_error.proofs.edge_error.Given as goal

abbrev pub invariant-loop-i : goal.invariant-loop-i
invariant-loop-i l =
    (l.sum ≡ sum_to (λ (i : ℕ). pick (own_pixel l.band.width l.band.rows l.k i) (pixels_apart l.group l.shown i) 0) l.i)
    × (l.sum ≤ l.i * 195075)
