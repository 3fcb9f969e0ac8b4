-- `palette::palettes::rows` meets its contract. The invariant: the first k colours of each row are written.
use Prim.Native.Nat.{ℕ}
use native.Mathlib.Omega.{arith}
use mathlib.Core.Path.{◌≡◌, sym, ap₂, ◌∙◌}
use mathlib.Core.List.{List, [], ◌∷◌, map}
use lib.ListN.{get_or, replicate}
use borrow.Author.Rules.{rules}
use Rattle.lists.proofs.Rows.{written_next}
use Rattle.lists.proofs.Writing.{map-written}
use Rattle.bptc.specs.declared.Rgb.{Rgb}
use Rattle.bptc.specs.declared.Colour.{Colour}
use Rattle.bptc.specs.Internal.Colour.{black, both}
use Rattle.bptc.specs.Internal.Pixels.{pixel_word}
use Rattle.bptc.specs.Internal.Palette.{blend, blended_row, blended_rows, colour, coloured}
use Rattle.palette.proofs.palettes.rows.Invariants.{row_to}
use Rattle.palette.proofs.palettes.rows.Goals as goal

-- they are those of the palette
row_is : (weights : List ℕ) (a b : Rgb) (k : ℕ) → row_to weights a b k ≡ map colour (blended_row weights k a b)
unfolding blended_row pixel_word
row_is weights a b k = sym (map-written colour (λ (i : ℕ). both (blend (get_or weights i 0)) a b) k (replicate 8 black))

pub loop-k-preserved : goal.loop-k-preserved
loop-k-preserved c =
    let at = c.loop-k in (
      search rules,
      rw (at.invariant.1, c.interpolate_rgb.ensures) (written_next (record { 0 = 0 }) _ _ at.k (omega arith)),
      rw (at.invariant.2, c.interpolate_rgb-in-loop-k.ensures) (written_next (record { 0 = 0 }) _ _ at.k (omega arith)),
    )

pub returns : goal.returns
unfolding coloured blended_rows
returns c =
    let at = c.loop-k in
    let a = c.args in
    let e : at.k ≡ a.colours = omega arith in
    ap₂ {C = List (List Colour)} (λ (x y : List Colour). x ∷ (y ∷ [])) (rw e at at.invariant.1 ∙ row_is a.weights.now _ _ _) (rw e at at.invariant.2 ∙ row_is a.weights.now _ _ _)
