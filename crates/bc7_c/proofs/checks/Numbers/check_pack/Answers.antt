-- `bc7_c::checks::Numbers::check_pack` meets its contract.
use native.Mathlib.Omega.{arith}
use mathlib.Core.Path.{◌≡◌, ◌∙◌}
use mathlib.Core.Logic.{inl, inr}
use borrow.Author.Rules.{rules}
use Rattle.bptc.specs.Mode.{mode_numbered}
use Rattle.bptc_block.specs.Refusal.{check_indices}
use Rattle.bptc_block.specs.PackCall.{fixed_at}
use Rattle.bptc_block.proofs.Answers.{other_candidate}
use Rattle.bc7_c.specs.Numbers.{indices_of, packed_at}
use Rattle.bc7_c.proofs.Masked.{masked_checked}
use Rattle.bc7_c.proofs.checks.Numbers.check_pack.Goals as goal

pub returns-in-1 : goal.returns-in-1
unfolding mode_numbered
returns-in-1 c =
    let a = c.args.self in
    let e : a.mode ≡ 1 = c.in-1.is in
    c.check_masked.ensures
    ∙ masked_checked a.mode a.partition a.ends a.p c.args.indices _ _ _ (inl e) (search rules) (λ i. search rules) (search rules) (rw e) (rw e) (rw e)

pub returns-in-3 : goal.returns-in-3
unfolding mode_numbered
returns-in-3 c =
    let a = c.args.self in
    let e : a.mode ≡ 3 = c.in-3.is in
    c.check_masked-in-3.ensures
    ∙ masked_checked a.mode a.partition a.ends a.p c.args.indices _ _ _ (inr e) (search rules) (λ i. search rules) (search rules) (rw e) (rw e) (rw e)

pub returns-in_default : goal.returns-in_default
returns-in_default c =
    let a = c.args.self in
    other_candidate (fixed_at a.mode (packed_at a.partition a.ends a.p c.args.indices)) (check_indices a.mode (indices_of c.args.indices) 0) (λ e. omega arith) (λ e. omega arith)
