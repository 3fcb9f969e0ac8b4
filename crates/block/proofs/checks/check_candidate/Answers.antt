-- `block::checks::check_candidate` meets its contract.
use Prim.Native.Nat.{ℕ}
use mathlib.Core.Path.{sym, ap, ◌∙◌}
use native.Mathlib.Omega.{arith}
use borrow.Author.Rules.{rules}
use Rattle.bptc.specs.Mode.{mode1, mode3}
use Rattle.bptc.proofs.Modes.{is_mode1, is_mode3}
use Rattle.bptc_block.specs.Refusal.{check_candidate}
use Rattle.bptc_block.proofs.Answers.{candidate_stored, other_candidate}
use Rattle.block.proofs.checks.check_candidate.Goals as goal

pub returns-in-1 : goal.returns-in-1
returns-in-1 c =
    let k = c.args.c in
    c.check_stored.ensures
    ∙ candidate_stored mode1 is_mode1 k.partition k.ends k.p 0 (search rules)
    ∙ ap (λ (n : ℕ). check_candidate (record { mode = n; partition = k.partition; ends = k.ends; p = k.p }) 0) (sym c.in-1.is)

pub returns-in-3 : goal.returns-in-3
returns-in-3 c =
    let k = c.args.c in
    c.check_stored-in-3.ensures
    ∙ candidate_stored mode3 is_mode3 k.partition k.ends k.p 0 (search rules)
    ∙ ap (λ (n : ℕ). check_candidate (record { mode = n; partition = k.partition; ends = k.ends; p = k.p }) 0) (sym c.in-3.is)

pub returns-in_default : goal.returns-in_default
returns-in_default c = other_candidate c.args.c 0 (λ e. omega arith) (λ e. omega arith)
