-- `bits::indexes::index_list` meets its contract. The invariant: the first i indices are digits.
use native.Mathlib.Omega.{arith}
use mathlib.Core.Path.{refl, sym, ◌∙◌}
use native.Mathlib.Numerals.{add-one}
use lib.Seq.{take_all}
use borrow.Author.Rules.{rules}
use Rattle.lists.specs.Bits.{join}
use Rattle.bptc_rust.specs.IndexList.{put}
use Rattle.bptc_rust.proofs.Digits.{digits, put_next, list_digits}
use Rattle.bptc_rust.proofs.Order.{ordered_of}
use Rattle.bits.proofs.indexes.index_list.Goals as goal

pub loop-i-init : goal.loop-i-init
unfolding digits join
loop-i-init g c = refl

pub loop-i-preserved : goal.loop-i-preserved
unfolding put
loop-i-preserved g c =
    let m = g.M.Mode in
    rw (add-one, c.from.ensures, c.INDEX_BITS.ensures, m.index_bits_are, c.loop-i.invariant)
    (put_next m.mode.index_bits (ordered_of m.mode m.is_mode).most c.args.indices.now c.loop-i.i (search rules) c.requires (omega arith))

pub returns : goal.returns
returns g c =
    let m = g.M.Mode in
    c.loop-i.invariant
    ∙ rw (take_all c.loop-i.i c.args.indices.now (omega arith))
    (sym (list_digits m.mode.index_bits (ordered_of m.mode m.is_mode).most c.args.indices.now (search rules) c.requires))
