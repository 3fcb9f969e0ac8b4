-- `shades::root_up` meets its contract. The invariant: the number is from low to high.
use Rattle.std.proofs.Common.{ℕ, ◌*◌, ◌-◌, ◌<◌, ◌≤◌}
use Rattle.shades.proofs.root_up.Given as goal

abbrev pub invariant-loop-low : goal.invariant-loop-low
invariant-loop-low l =
    (l.low ≤ l.high) × (l.high ≤ 255) × (l.high < 255 → l.n ≤ l.high * l.high) × ((t : ℕ) → t < l.low → t * t < l.n)

abbrev pub decreases-loop-low : goal.decreases-loop-low
decreases-loop-low l = l.high - l.low
