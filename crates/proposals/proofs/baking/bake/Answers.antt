-- `proposals::baking::bake` meets its contract.
use Rattle.std.proofs.Common.{◌≡◌, ap, ◌∙◌, rules}
use Rattle.bptc_block.specs.Compressed.{Compressed}
use Rattle.chooser.specs.Answers.{TakeAnswer, started}
use Rattle.chooser.specs.Calls.{held}
use Rattle.proposals.specs.Baking.{baked}
use Rattle.proposals.proofs.Groups.{taken-error, baked-held}
use Rattle.proposals.proofs.baking.bake.Goals as goal

pub returns : goal.returns
unfolding held
returns c =
    let a = c.args in
    let same : held c.built_in.result a.block.now ≡ baked a.pixels.now =
    baked-held a.pixels.now a.block.now (started c.start.result.0 c.start.result.1) c.built_in.result (search rules)
    c.start.ensures c.built_in.ensures in (record {
      answer = c.unwrap_or.ensures ∙ taken-error c.take-error.result.0 ∙ ap (λ (w : TakeAnswer). w.answer.error) c.take-error.ensures.answer ∙ ap (λ (h : Compressed). h.error) same;
      part = c.take-error.ensures.part ∙ ap (λ (h : Compressed). h.block) same;
    })
