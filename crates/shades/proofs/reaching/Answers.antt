-- `shades::reaching` meets its contract on the scale of roots: the root of a quotient rounded up is the least number that reaches the error.
use Rattle.std.proofs.Common.{arith, ◌*◌}
use Rattle.shades.proofs.Quotients.{up_reached, up-least}
use Rattle.shades.proofs.reaching.Goals as goal

pub returns-in-SquareRoot-clause-reached : goal.returns-in-SquareRoot-clause-reached
returns-in-SquareRoot-clause-reached c l =
    let r = c.root_up.result in
    let q = rw (c.from.ensures, c.from-in-SquareRoot.ensures) at c.div_ceil.ensures in
    let h = up_reached (c.args.error * 65025) c.args.white c.requires (r * r) (omega (arith, q, c.root_up.ensures.reached l)) in
    rw c.in-SquareRoot.is (omega (arith, h))

pub returns-in-SquareRoot-clause-least : goal.returns-in-SquareRoot-clause-least
returns-in-SquareRoot-clause-least c t l =
    let q = rw (c.from.ensures, c.from-in-SquareRoot.ensures) at c.div_ceil.ensures in
    let h = up-least (c.args.error * 65025) c.args.white c.requires (t * t) (omega (arith, q, c.root_up.ensures.least t l)) in
    rw c.in-SquareRoot.is (omega (arith, h))
