-- `bc7_c::bc7_offer` meets its contract.
use mathlib.Core.Path.{sym, ◌∙◌}
use borrow.Author.Tests.{eq-eqb}
use Rattle.lists.specs.Bytes.{Bytes}
use Rattle.refusals.proofs.Numbers.{some_number}
use Rattle.chooser.proofs.Calls.{offer_declined}
use Rattle.bc7_c.specs.Numbers.{candidate_of}
use Rattle.bc7_c.specs.Parts.{chooser_in}
use Rattle.bc7_c.specs.Calls.{offer_part}
use Rattle.bc7_c.proofs.PartBytes.{bytes_in}
use Rattle.bc7_c.proofs.bc7_offer.Goals as goal

pub returns-in-Err-clause-part : goal.returns-in-Err-clause-part
unfolding offer_part
returns-in-Err-clause-part c =
    let a = c.args in
    let part = a.chooser.now in
    let own = c.in-Some.ensures.cases in
    let bytes : Bytes part = λ i h. rw own.same at (c.type_inv.chooser i).fits in
    rw (
      eq-eqb _ 68 own.long,
      offer_declined (chooser_in part) (candidate_of a.mode a.partition a.e0 a.e1 a.e2 a.e3 a.p a.free) (λ z. some_number c.in-Err.refusal (c.in-Err.ensures ∙ z)),
    )
    (own.same ∙ sym (bytes_in part own.long bytes))
