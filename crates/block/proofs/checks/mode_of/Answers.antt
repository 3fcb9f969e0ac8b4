-- `block::checks::mode_of` meets its contract, arm by arm.
use native.Mathlib.Omega.{arith}
use mathlib.Core.Path.{sym, ap, ◌∙◌}
use mathlib.Core.Logic.{⊎_elim}
use lib.Count.{count_trailing_zeros}
use lib.ListN.{get_or}
use borrow.Author.Rules.{rules}
use Rattle.lists.proofs.Digits.{zeros_is}
use Rattle.bptc.specs.Mode.{mode_numbered}
use Rattle.bptc_block.specs.Packed.{mode_of}
use Rattle.bptc_block.proofs.Readable.{by_zeros, readable, zeros-other}
use Rattle.block.proofs.checks.mode_of.Goals as goal

pub returns-in-1 : goal.returns-in-1
unfolding mode_of mode_numbered
returns-in-1 c =
    (sym c.in-1.is ∙ zeros_is 8 (get_or c.args.block.now 0 0), readable c.args.block.now (search rules) ∙ ap by_zeros c.in-1.is)

pub returns-in-3 : goal.returns-in-3
unfolding mode_of mode_numbered
returns-in-3 c =
    (sym c.in-3.is ∙ zeros_is 8 (get_or c.args.block.now 0 0), readable c.args.block.now (search rules) ∙ ap by_zeros c.in-3.is)

pub returns-in-0 : goal.returns-in-0
unfolding mode_numbered
returns-in-0 c = sym (readable c.args.block.now (search rules) ∙ ⊎_elim (ap by_zeros) (ap by_zeros) c.in-0.in-0-own.keys3)

pub returns-in-0-2 : goal.returns-in-0-2
returns-in-0-2 c =
    sym (readable c.args.block.now (search rules)
    ∙ zeros-other (count_trailing_zeros 8 (get_or c.args.block.now 0 0)) (⊎_elim (λ e. omega arith) (λ e. omega arith)) (omega arith))
