-- `reading::indices` meets its contract. The invariant: the first i indices are written, and the next one begins at `next`.
use Prim.Native.Nat.{◌+◌, ◌<◌}
use native.Mathlib.Omega.{arith}
use mathlib.Core.Path.{◌≡◌, refl, sym, ap₂, ◌∙◌}
use lib.ListN.{get_or, drop, replicate}
use borrow.Author.Rules.{rules}
use Rattle.lists.specs.Rows.{written}
use Rattle.lists.specs.Bits.{split}
use Rattle.lists.specs.Internal.Fields.{field_at}
use Rattle.lists.specs.Bytes.{number}
use Rattle.lists.proofs.Rows.{written_next, written_all, listed}
use Rattle.bptc_block.specs.Fields.{index_width, widths}
use Rattle.reading.proofs.ThreeChannels.{width_of, indices_length, first_index_place, next_index_place, index_read, places_inside}
use Rattle.reading.proofs.indices.Goals as goal

pub loop-i-init : goal.loop-i-init
unfolding written
loop-i-init g c = (c.indices_at-next.ensures ∙ sym (first_index_place g.M.Mode.mode g.M.Mode.is_mode c.args.partition.number), refl)

pub field-requires : goal.field-requires
field-requires g c =
    record {
      inside = omega (arith, places_inside g.M.Mode.mode g.M.Mode.is_mode c.args.partition.number c.args.partition.inside (15 + c.loop-i.i));
      few = search rules;
    }

pub overflow_add-next : goal.overflow_add-next
overflow_add-next g c =
    let m = g.M.Mode in
    omega (arith, places_inside m.mode m.is_mode c.args.partition.number c.args.partition.inside (15 + c.loop-i.i))

pub loop-i-preserved : goal.loop-i-preserved
unfolding index_width
loop-i-preserved g c =
    let a = c.args in
    let at = c.loop-i in
    let m = g.M.Mode.mode in
    let n = number a.block.now in
    let h : at.i < 16 = omega arith in
    let known = g.M.Mode.is_mode in
    let width = c.index_width-width.ensures.0 ∙ width_of m known a.partition.number a.partition.inside at.i in
    let value : c.field.result ≡ get_or (drop 15 (split (widths m a.partition.number) n)) at.i 0 = c.field.ensures ∙ ap₂ (field_at n) at.invariant.0 width ∙ sym (index_read m known a.partition.number n at.i h) in (
      ap₂ ◌+◌ at.invariant.0 width ∙ sym (next_index_place m known a.partition.number at.i h),
      rw (at.invariant.1, value) (written_next 0 _ (replicate 16 0) at.i h),
    )

pub returns : goal.returns
returns g c =
    let a = c.args in
    let e : c.loop-i.i ≡ 16 = omega arith in
    rw e at c.loop-i.invariant.1
    ∙ written_all 0 _ (replicate 16 0) 16 refl
    ∙ listed 0 (drop 15 (split (widths (g.M.Mode.mode) a.partition.number) (number a.block.now))) 16 (indices_length g.M.Mode.mode g.M.Mode.is_mode a.partition.number (number a.block.now))
