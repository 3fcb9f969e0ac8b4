-- `palette::palettes::rows` meets its contract. The invariant: the first k colours of each row are written.
use Prim.Native.Nat.{ℕ, ◌≤◌}
use mathlib.Core.Path.{◌≡◌}
use mathlib.Core.List.{List}
use lib.ListN.{get_or, replicate}
use Rattle.lists.specs.Rows.{written}
use Rattle.bptc.specs.declared.Rgb.{Rgb}
use Rattle.bptc.specs.declared.Colour.{Colour}
use Rattle.bptc.specs.Internal.Colour.{both}
use Rattle.bptc.specs.Internal.Palette.{blend, colour}
use Rattle.palette.proofs.palettes.rows.Given as goal

-- the first k colours between two, and black after them
abbrev pub row_to : List ℕ → Rgb → Rgb → ℕ → List Colour
row_to weights a b k = written (λ (i : ℕ). colour (both (blend (get_or weights i 0)) a b)) k (replicate 8 (record { 0 = 0 }))

abbrev pub invariant-loop-k : goal.invariant-loop-k
invariant-loop-k l =
    (l.k ≤ l.colours) × (l.first ≡ row_to l.weights l.e0 l.e1 l.k) × (l.second ≡ row_to l.weights l.e2 l.e3 l.k)
