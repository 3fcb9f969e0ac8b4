-- `quality::logarithm` meets its contract. The invariant: the bits found, and those of what is left, make the logarithm.
use Rattle.std.proofs.Common.{◌+◌, ◌-◌, ◌^◌, ◌<◌, ◌≤◌, ◌≡◌}
use Rattle.quality.specs.Psnr.{log_bits, log_in}
use Rattle.quality.proofs.logarithm.Given as goal

abbrev pub invariant-loop-i : goal.invariant-loop-i
invariant-loop-i l = (l.log + log_bits (48 - l.i) l.x ≡ log_in 48 l.fn.n) × (2 ^ 63 ≤ l.x) × (l.x < 2 ^ 64)
