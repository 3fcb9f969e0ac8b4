-- `bits::writing::exchanged_bits` meets its contract.
use mathlib.Core.Path.{◌≡◌, sym, ◌∙◌}
use borrow.Author.Tests.{eq-eqb, ne_eqb}
use lib.Dec.{eqb}
use mathlib.Core.Bool.{true, false}
use Rattle.bptc.specs.Mode.{p_bits}
use Rattle.bptc_rust.proofs.Writing.{bits-exchanged}
use Rattle.bits.proofs.writing.exchanged_bits.Goals as goal

pub returns-then-P_BITS-eq4 : goal.returns-then-P_BITS-eq4
returns-then-P_BITS-eq4 g c =
    let m = g.M.Mode in
    let four : eqb (p_bits m.mode) 4 ≡ true = eq-eqb _ 4 (sym (c.P_BITS.ensures ∙ m.p_bits_are) ∙ c.if-P_BITS-eq4.true) in
    rw (c.turned_bits.ensures.0, c.turned_bits-then-P_BITS-eq4.ensures.0) (rw four at (bits-exchanged m.mode m.is_mode c.args.swap0 c.args.swap1 c.args.p c.requires))

pub returns-else-P_BITS-eq4 : goal.returns-else-P_BITS-eq4
returns-else-P_BITS-eq4 g c =
    let m = g.M.Mode in
    let two : eqb (p_bits m.mode) 4 ≡ false = ne_eqb _ 4 (λ e. c.if-P_BITS-eq4.false (c.P_BITS.ensures ∙ m.p_bits_are ∙ e)) in
    rw two at (bits-exchanged m.mode m.is_mode c.args.swap0 c.args.swap1 c.args.p c.requires)
