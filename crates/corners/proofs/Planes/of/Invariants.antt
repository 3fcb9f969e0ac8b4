-- `corners::Planes::of` meets its contract. The invariant: the channels of the first i pixels are written.
use Rattle.std.proofs.Common.{ℕ, ◌≡◌, get_or, replicate}
use Rattle.lists.specs.Rows.{written}
use Rattle.bptc.specs.Internal.Colour.{black, colours_of}
use Rattle.corners.proofs.Planes.of.Given as goal

abbrev pub invariant-loop-i : goal.invariant-loop-i
invariant-loop-i l =
    (l.r ≡ written (λ (k : ℕ). (get_or (colours_of l.pixels) k black).r) l.i (replicate 16 0))
    × (l.g ≡ written (λ (k : ℕ). (get_or (colours_of l.pixels) k black).g) l.i (replicate 16 0))
    × (l.b ≡ written (λ (k : ℕ). (get_or (colours_of l.pixels) k black).b) l.i (replicate 16 0))
