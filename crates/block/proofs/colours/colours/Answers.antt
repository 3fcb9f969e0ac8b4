-- `block::colours::colours` meets its contract. The invariant: the first i colours are written.
use Prim.Native.Nat.{ℕ, ◌≤◌}
use native.Mathlib.Omega.{arith}
use mathlib.Core.Path.{◌≡◌, refl, sym, ap, ◌∙◌}
use mathlib.Core.List.{map}
use lib.ListN.{get_or, replicate}
use borrow.Author.Rules.{rules}
use Rattle.lists.specs.Rows.{written}
use Rattle.lists.specs.Digits.{bit}
use Rattle.lists.proofs.Rows.{written_next, written_all, each_same}
use Rattle.bptc.specs.declared.Rgb.{Rgb}
use Rattle.bptc.specs.Mode.{largest}
use Rattle.bptc.specs.Partition.{subset_of}
use Rattle.bptc.specs.Colour.{clear}
use Rattle.bptc.specs.Internal.Colour.{black}
use Rattle.bptc.specs.Internal.Pixels.{pixel_of}
use Rattle.bptc.specs.Internal.Palette.{word_at}
use Rattle.bptc.proofs.PartitionRule.{subset_two}
use Rattle.bptc.proofs.Modes.{few_colours, shades_of}
use Rattle.bptc.proofs.Shading.{word-shown}
use Rattle.bptc.proofs.Opaque.{opaque}
use Rattle.bptc_block.specs.Fields.{block_fields}
use Rattle.bptc_block.proofs.Stored.{stored_rgb}
use Rattle.bptc_block.proofs.Opaque.{colour_rgb}
use Rattle.bptc_block.specs.Chapter.{colour_at, colours}
use Rattle.block.proofs.colours.colours.Goals as goal

pub new-requires : goal.new-requires
new-requires g c = stored_rgb g.M.Mode.mode g.M.Mode.is_mode c.args.f.ends c.requires.channels

pub loop-i-init : goal.loop-i-init
unfolding written
loop-i-init g c = refl

pub bounds-row-from : goal.bounds-row-from
bounds-row-from g c = omega (arith, few_colours g.M.Mode.mode g.M.Mode.is_mode, c.requires.indices c.loop-i.i (search rules))

pub loop-i-preserved : goal.loop-i-preserved
loop-i-preserved g c =
    let at = c.loop-i in
    rw (at.invariant, c.from-in-loop-i-2.ensures, c.from-in-loop-i.ensures, c.from.ensures) (written_next black _ (replicate 16 black) at.i (search rules))

pub returns : goal.returns
unfolding colours subset_of
returns g c =
    let f = c.args.f in
    let m = g.M.Mode.mode in
    let is = g.M.Mode.is_mode in
    let e : c.loop-i.i ≡ 16 = omega arith in
    let rows = c.palettes-rows in
    let mask = c.mask-subsets in
    let read : ℕ → Rgb = λ (i : ℕ). pixel_of (word_at rows.result (bit mask.result i) (get_or f.indices i 0)) in
    ap (map opaque) (rw e at c.loop-i.invariant ∙ written_all black read (replicate 16 black) 16 refl)
    ∙ each_same clear (λ (i : ℕ). opaque (read i)) (colour_at m (block_fields f)) 16
    (λ i h.
    let small : get_or f.indices i 0 ≤ largest m = omega (arith, c.requires.indices i h) in
    rw (rows.ensures, c.new.ensures, mask.ensures)
    (ap opaque
    (word-shown m (few_colours m is) f.ends f.p (subset_of 2 f.partition i) (get_or f.indices i 0) (subset_two f.partition i) small (shades_of m is)
    (stored_rgb m is f.ends c.requires.channels)))
    ∙ sym (colour_rgb m is f i small))
