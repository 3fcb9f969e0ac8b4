-- `palette::colour::Width::promote` meets its contract, at every width.
use native.Mathlib.Omega.{arith}
use Prim.Native.Nat.{◌+◌, ◌-◌, ◌*◌, ◌/◌, ◌%◌, ◌^◌, ◌<◌}
use mathlib.Core.Path.{◌≡◌}
use Rattle.bptc.specs.Internal.Shown.{p_shown}
use Rattle.bptc.proofs.ShownBytes.{p-shown, p-shown-byte}
use Rattle.palette.proofs.colour.Width.promote.Goals.{After-from-2}
use Rattle.palette.proofs.colour.Width.promote.Goals as goal

-- the sum of the two shifts is what is shown, and a byte
made : (c : After-from-2) →
    let v = c.from.result * 2 + c.from-2.result in
    let a = c.args in
    (v * 2 ^ (7 - a.self.bits) % 65536 + v / 2 ^ (2 * a.self.bits - 6) ≡ p_shown a.self.bits a.p a.e) × (p_shown a.self.bits a.p a.e < 256)
made c =
    let a = c.args in
    let q = c.requires in
    let small = p-shown-byte a.self.bits a.p a.e a.self.wide a.self.narrow q.bit q.channel in
    rw (c.from.ensures, c.from-2.ensures) (omega (arith, p-shown a.self.bits a.p a.e a.self.wide a.self.narrow, small), small)

pub overflow_cast-result-3 : goal.overflow_cast-result-3
overflow_cast-result-3 c = record { fits = omega (arith, made (goal.at.overflow_cast-result-3 c).After-from-2) }

pub returns : goal.returns
returns c = (made (goal.at.returns c).After-from-2).0
