-- `finishing::pick::Mode1FreeBits::free` meets its contract: each subset keeps the better of the two.
use native.Mathlib.Omega.{arith}
use Prim.Native.Nat.{ℕ, ◌%◌, ◌≤◌}
use mathlib.Core.Path.{◌≡◌, ap, ◌∙◌}
use mathlib.Core.List.{List}
use Rattle.bptc.specs.declared.Rgb.{Rgb}
use Rattle.bptc.specs.Mode.{mode1}
use Rattle.bptc.specs.Internal.Masks.{mask_of}
use Rattle.bptc.specs.Internal.Colour.{colours_of}
use Rattle.bptc.proofs.PartitionRule.{entry_ones}
use Rattle.closest.specs.Found.{found_at}
use Rattle.finishing.proofs.Kept.{sums1, free1-picked}
use Rattle.finishing.proofs.pick.Mode1FreeBits.free.Goals.{After-closest_rgb-b}
use Rattle.finishing.proofs.pick.Mode1FreeBits.free.Goals as goal

module _ (c : After-closest_rgb-b) where
  -- the query's parts
  abbrev part : ℕ
  part = c.args.query.now.partition.number

  abbrev ends : List Rgb
  ends = c.args.query.now.ends.stored

  abbrev pixels : List ℕ
  pixels = c.args.query.now.pixels.now

  -- what is found at 0
  first : c.closest_rgb-a.result ≡ found_at mode1 ends 0 (mask_of part) (colours_of pixels)
  first = c.closest_rgb-a.ensures ∙ ap (λ (n : ℕ). found_at mode1 ends 0 n (colours_of pixels)) (c.from-m.ensures ∙ c.mask.ensures)

  -- and at 3
  next : c.closest_rgb-b.result ≡ found_at mode1 ends 3 (mask_of part) (colours_of pixels)
  next = c.closest_rgb-b.ensures ∙ ap (λ (n : ℕ). found_at mode1 ends 3 n (colours_of pixels)) (c.from-m.ensures ∙ c.mask.ensures)

  -- subset 1 has no more than all
  less : (c.closest_rgb-a.result.second ≤ c.closest_rgb-a.result.all) × (c.closest_rgb-b.result.second ≤ c.closest_rgb-b.result.all)
  less =
      let s = sums1 part ends pixels _ _ first next in
      (omega (arith, s), omega (arith, s))

pub overflow_sub-a0 : goal.overflow_sub-a0
overflow_sub-a0 c = omega (arith, less (goal.at.overflow_sub-a0 c).After-closest_rgb-b)

pub overflow_sub-b0 : goal.overflow_sub-b0
overflow_sub-b0 c = omega (arith, less (goal.at.overflow_sub-b0 c).After-closest_rgb-b)

pub returns : goal.returns
returns c =
    let k = (goal.at.returns c).After-closest_rgb-b in
    let ones = ap (λ (n : ℕ). n % 281474976710656) c.entry3.ensures ∙ entry_ones 3 (part k) in
    rw (
      c.mix.ensures,
      c.either-first.ensures,
      c.either-second.ensures,
      ones,
      c.either.ensures,
      c.either-2.ensures,
      c.either-3.ensures,
      c.either-4.ensures,
    )
    (free1-picked (part k) (ends k) (pixels k) _ _ (first k) (next k) c.args.query.now.long)
