-- `bits::writing::write_narrowed` meets its contract.
use Prim.Native.Nat.{ℕ, ◌≤◌}
use native.Mathlib.Omega.{arith}
use mathlib.Core.Path.{◌≡◌, refl, sym, ap, ◌∙◌, subst}
use lib.ListN.{replicate}
use Rattle.lists.specs.Bits.{split}
use Rattle.bptc_block.specs.declared.Fields.{Fields}
use Rattle.bptc_block.specs.Fields.{block_fields, Plain}
use Rattle.bptc_block.specs.Packed.{packed}
use Rattle.bptc_block.specs.Exchange.{compressed}
use Rattle.bptc_block.specs.Internal.Words.{word_fields}
use Rattle.bptc_rust.specs.IndexList.{index_list}
use Rattle.bptc_rust.proofs.WordFields.{words-stand, list_small}
use Rattle.bptc_rust.proofs.Compressing.{plain_small}
use Rattle.bits.proofs.FewBits.{few_bits}
use Rattle.bits.proofs.writing.write_narrowed.Given.{Over}
use Rattle.bits.proofs.writing.write_narrowed.Goals.{After-narrowed-indexes}
use Rattle.bits.proofs.writing.write_narrowed.Goals as goal

-- the number of the indexes is that of the mode's width
listed : (g : Over) (c : After-narrowed-indexes g) → c.narrowed-indexes.result ≡ index_list g.M.Mode.mode.index_bits (split (replicate 16 4) c.args.w.indexes)
listed g c =
    c.narrowed-indexes.ensures
    ∙ ap (λ (b : ℕ). index_list b (split (replicate 16 4) c.args.w.indexes)) (c.INDEX_BITS.ensures ∙ g.M.Mode.index_bits_are)

pub narrowed-indexes-requires : goal.narrowed-indexes-requires
narrowed-indexes-requires g c =
    let m = g.M.Mode.mode in
    let bits : c.INDEX_BITS.result ≡ m.index_bits = c.INDEX_BITS.ensures ∙ g.M.Mode.index_bits_are in
    let few : m.index_bits ≤ 3 = few_bits m g.M.Mode.is_mode in
    record { few = omega arith; small = rw bits (plain_small m (block_fields (word_fields 4 c.args.w)) c.requires) }

-- and the words stand for the same fields
again : (g : Over) (c : After-narrowed-indexes g) →
    let w = c.args.w in
    word_fields g.M.Mode.mode.index_bits (record { partition = w.partition; ends = w.ends; p = w.p; indexes = c.narrowed-indexes.result }) ≡ word_fields 4 w
again g c = rw (listed g c) (words-stand g.M.Mode.mode g.M.Mode.is_mode (word_fields 4 c.args.w) c.requires c.args.w.ends refl)

pub write_words-requires-clause-plain : goal.write_words-requires-clause-plain
write_words-requires-clause-plain g c =
    subst (λ (f : Fields). Plain g.M.Mode.mode (block_fields f)) (sym (again g (goal.at.write_words-requires-clause-plain g c).After-narrowed-indexes)) c.requires

pub write_words-requires-clause-list : goal.write_words-requires-clause-list
write_words-requires-clause-list g c =
    let m = g.M.Mode in
    rw (listed g (goal.at.write_words-requires-clause-list g c).After-narrowed-indexes) (list_small m.mode m.is_mode (word_fields 4 c.args.w) c.requires)

pub returns : goal.returns
returns g c =
    let m = g.M.Mode.mode in
    c.write_words.ensures ∙ ap (λ (f : Fields). packed m (compressed m (block_fields f))) (again g (goal.at.returns g c).After-narrowed-indexes)
