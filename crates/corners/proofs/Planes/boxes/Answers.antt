-- `corners::Planes::boxes` meets its contract.
use Rattle.std.proofs.Common.{ℕ, zero, suc, ◌≡◌, ◌-◌, ◌*◌, ◌%◌, ◌<◌, get_or, refl, sym, ◌∙◌, arith}
use lib.Dec.{eqb}
use Rattle.lists.specs.Digits.{bit}
use Rattle.lists.proofs.Rows.{get_or-each}
use Rattle.corners.specs.Corners.{colour_in, boxes_of}
use Rattle.corners.proofs.Boxing.{box_next}
use Rattle.corners.proofs.Planes.boxes.Goals.{In-loop-i}
use Rattle.corners.proofs.Planes.boxes.Goals as goal

-- the mark of a turn's pixel
mark : (c : In-loop-i) → get_or c.marks-marked.result c.loop-i.i 0 ≡ bit c.args.mask c.loop-i.i * 255
mark c = rw c.marks-marked.ensures (get_or-each 0 (λ (i : ℕ). bit c.args.mask i * 255) 16 c.loop-i.i (omega arith))

-- a mark of subset 0, or of subset 1, tests the bit
tested : (b : ℕ) → b < 2 → ((b * 255) % 255 ≡ 0) × (eqb (b * 255) 0 ≡ eqb b 0) × ((255 - b * 255) % 255 ≡ 0) × (eqb (255 - b * 255) 0 ≡ eqb b 1)
tested zero h = (refl, refl, refl, refl)
tested (suc zero) h = (refl, refl, refl, refl)
tested (suc (suc b)) h = absurd (omega arith)

pub widened-first-requires : goal.widened-first-requires
widened-first-requires c = rw (mark (goal.at.widened-first-requires c).In-loop-i) (tested (bit c.args.mask c.loop-i.i) (omega arith)).0

pub widened-second-requires : goal.widened-second-requires
widened-second-requires c = rw (mark (goal.at.widened-second-requires c).In-loop-i) (tested (bit c.args.mask c.loop-i.i) (omega arith)).2

pub loop-i-preserved : goal.loop-i-preserved
loop-i-preserved c =
    let at = c.loop-i in
    let planes = c.args.self.now in
    let mask = c.args.mask in
    let t = tested (bit mask at.i) (omega arith) in (
      c.widened-first.ensures
          ∙ rw (mark (goal.at.loop-i-preserved c).In-loop-i, t.1, at.invariant.0, c.colour-c.ensures) (sym (box_next (colour_in planes) (λ (i : ℕ). eqb (bit mask i) 0) at.i)),
      c.widened-second.ensures
          ∙ rw (mark (goal.at.loop-i-preserved c).In-loop-i, t.3, at.invariant.1, c.colour-c.ensures) (sym (box_next (colour_in planes) (λ (i : ℕ). eqb (bit mask i) 1) at.i)),
    )

pub returns : goal.returns
unfolding boxes_of
returns c =
    let at = c.loop-i in
    let e : at.i ≡ 16 = omega arith in
    λ t. record { first = rw e at at.invariant.0 t; second = rw e at at.invariant.1 t }
