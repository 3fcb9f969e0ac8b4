-- `bits::writing::write` meets its contract.
use mathlib.Core.Path.{◌≡◌, sym, ap, ◌∙◌, subst}
use Rattle.bptc_block.specs.declared.Fields.{Fields}
use Rattle.bptc_block.specs.Fields.{block_fields, Plain}
use Rattle.bptc_block.specs.Packed.{packed}
use Rattle.bptc_block.specs.Exchange.{compressed}
use Rattle.bptc_block.specs.Internal.Words.{word_fields}
use Rattle.bptc_rust.proofs.Compressing.{plain_small}
use Rattle.bptc_rust.proofs.WordFields.{fields-again}
use Rattle.bits.proofs.writing.write.Given.{Over}
use Rattle.bits.proofs.writing.write.Goals.{After-index_list}
use Rattle.bits.proofs.writing.write.Goals as goal

pub index_list-requires : goal.index_list-requires
index_list-requires g c = plain_small g.M.Mode.mode (block_fields c.args.f) c.requires

-- the words stand for the fields
again : (g : Over) (c : After-index_list g) →
    word_fields g.M.Mode.mode.index_bits (record { partition = c.args.f.partition; ends = c.words.result; p = c.args.f.p; indexes = c.index_list.result }) ≡ c.args.f
again g c = rw (c.words.ensures, c.index_list.ensures) (fields-again g.M.Mode.mode g.M.Mode.is_mode c.args.f c.requires)

pub write_words-requires-clause-plain : goal.write_words-requires-clause-plain
write_words-requires-clause-plain g c =
    subst (λ (f : Fields). Plain g.M.Mode.mode (block_fields f)) (sym (again g (goal.at.write_words-requires-clause-plain g c).After-index_list)) c.requires

pub returns : goal.returns
returns g c =
    let m = g.M.Mode.mode in
    c.write_words.ensures ∙ ap (λ (f : Fields). packed m (compressed m (block_fields f))) (again g (goal.at.returns g c).After-index_list)
