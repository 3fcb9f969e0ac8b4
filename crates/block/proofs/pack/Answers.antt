-- `block::pack` meets its contract.
use native.Mathlib.Omega.{arith}
use mathlib.Core.Path.{◌∙◌}
use Rattle.refusals.specs.declared.Refusal.TheVariants.{BlockPart, Mode}
use Rattle.bptc_block.proofs.Answers.{pack_left, pack_part, pack_mode}
use Rattle.block.proofs.pack.Goals as goal

pub returns-in_default-clause-part : goal.returns-in_default-clause-part
returns-in_default-clause-part c =
    pack_left BlockPart _ _ _ (pack_part c.args.fields c.args.block.now c.args.mode c.in_default.ensures.cases)

pub returns-in_default-mode-clause-part : goal.returns-in_default-mode-clause-part
returns-in_default-mode-clause-part c =
    let part = c.in-Some.ensures.cases in
    let e = pack_mode c.args.fields c.args.block.now part.long c.args.mode (λ e. omega arith) (λ e. omega arith) in
    part.same ∙ pack_left Mode _ _ _ e
