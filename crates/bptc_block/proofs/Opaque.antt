-- Finishing in three channels is finishing by the squared distance over opaque pixels: errors and nearest indices.
use Prim.Native.Nat.{ℕ, ◌+◌, ◌<◌, ◌≤◌}
use native.Mathlib.Nat.{add-zero}
use native.Mathlib.Omega.{arith}
use mathlib.Core.Path.{◌≡◌, refl, ap, ap₂, ◌∙◌}
use mathlib.Core.List.{List, map}
use lib.Dec.{eqb}
use lib.ListN.{get_or}
use Rattle.lists.specs.Tests.{pick}
use Rattle.lists.specs.Rows.{up_from, sum, over_pixels}
use Rattle.lists.proofs.Sums.{pixels-same}
use Rattle.bptc.specs.declared.Rgb.{Rgb}
use Rattle.bptc.specs.Mode.{Mode, IsMode, largest}
use Rattle.bptc.specs.Partition.{subset_of, in_subset}
use Rattle.bptc.specs.Colour.{Rgba, clear, without_alpha, squared_distance}
use Rattle.bptc.specs.Shown.{own}
use Rattle.bptc.specs.Palette.{end_of, palette_of, palette_at, nearest}
use Rattle.bptc.specs.Internal.Colour.{black, dist_sq}
use Rattle.bptc.specs.Internal.Palette.{palette_colour}
use Rattle.bptc.specs.Internal.Nearest.{nearest_rgb}
use Rattle.bptc.specs.Internal.Closest.{closest_in}
use Rattle.bptc.proofs.Modes.{by_mode}
use Rattle.bptc.proofs.Opaque.{opaque, palette_opaque, apart_opaque, nearest_opaque}
use Rattle.bptc.proofs.PartitionRule.{subset_two}
use Rattle.bptc_block.specs.declared.Fields.{Fields}
use Rattle.bptc_block.specs.Fields.{block_fields}
use Rattle.bptc_block.specs.Chapter.{colour_at, apart}
use Rattle.bptc_block.specs.Finish.{nearest_apart, error_in, fields_at}
use Rattle.bptc_block.proofs.Modes.{Lawful, lawful_of}
use Rattle.bptc_block.proofs.Chosen.{apart_in, split, own-error}

-- the modes have two subsets
pub two_subsets : (m : Mode) → IsMode m → m.subsets ≡ 2
two_subsets = by_mode (λ (m : Mode). m.subsets ≡ 2) refl refl

-- over sixteen pixels that are opaque colours
module _ (m : Mode) (is : IsMode m) (part : ℕ) (ends cs : List Rgb) (pixels : List Rgba) (same : (i : ℕ) → i < 16 → get_or pixels i clear ≡ opaque (get_or cs i black)) where
  -- the nearest index of a pixel of subset s
  pub nearest_index : (p s : ℕ) → s < 2 → (i : ℕ) → i < 16 →
      nearest squared_distance m (end_of (without_alpha ends) s 0) (end_of (without_alpha ends) s 1) (own m p s) (get_or pixels i clear) ≡ nearest_rgb m ends p s (get_or cs i black)
  nearest_index p s two i h =
      ap (nearest squared_distance m (end_of (without_alpha ends) s 0) (end_of (without_alpha ends) s 1) (own m p s)) (same i h)
      ∙ nearest_opaque m is ends p s two (get_or cs i black)

  -- the distance of that pixel from its nearest colour
  pub nearest_far : (p s : ℕ) → s < 2 → (i : ℕ) → i < 16 →
      nearest_apart squared_distance m (end_of (without_alpha ends) s 0) (end_of (without_alpha ends) s 1) (own m p s) (get_or pixels i clear)
      ≡ dist_sq (get_or cs i black) (palette_colour m ends p s (nearest_rgb m ends p s (get_or cs i black)))
  unfolding nearest_apart
  nearest_far p s two i h =
      ap (λ (j : ℕ). squared_distance (get_or pixels i clear) (palette_of m (end_of (without_alpha ends) s 0) (end_of (without_alpha ends) s 1) (own m p s) j)) (nearest_index p s two i h)
      ∙ ap (λ (c : Rgba). squared_distance c (palette_of m (end_of (without_alpha ends) s 0) (end_of (without_alpha ends) s 1) (own m p s) (nearest_rgb m ends p s (get_or cs i black)))) (same i h)
      ∙ apart_opaque m is ends p s two 255 (get_or cs i black) (nearest_rgb m ends p s (get_or cs i black))

  -- the error of a subset
  pub error_closest : (p s : ℕ) → s < 2 → error_in squared_distance m part (without_alpha ends) pixels s (own m p s) ≡ (closest_in m part ends p s cs).error
  unfolding error_in closest_in
  error_closest p s two =
      ap (λ (n : ℕ). over_pixels (in_subset n part s far)) (two_subsets m is)
      ∙ pixels-same _ _ (λ i h. ap (λ (x : ℕ). pick (eqb (subset_of 2 part i) s) x 0) (nearest_far p s two i h))
    where
      -- the distance of pixel i from its nearest colour
      far : ℕ → ℕ
      far i = nearest_apart squared_distance m (end_of (without_alpha ends) s 0) (end_of (without_alpha ends) s 1) (own m p s) (get_or pixels i clear)

  -- the error of a block at given p-bits: those of its two subsets
  pub apart_closest : (p : ℕ) → apart squared_distance m pixels (fields_at squared_distance m part (without_alpha ends) pixels p) ≡ (closest_in m part ends p 0 cs).error + (closest_in m part ends p 1 cs).error
  apart_closest p =
      split squared_distance m law pixels (fields_at squared_distance m part (without_alpha ends) pixels p)
      ∙ ap (λ (n : ℕ). sum (map errors (up_from 0 n))) (two_subsets m is)
      ∙ ap (λ (x : ℕ). errors 0 + x) (add-zero (errors 1))
      ∙ ap₂ (λ (x y : ℕ). x + y) (each 0 (omega arith)) (each 1 (omega arith))
    where
      -- what the laws ask of the mode
      law : Lawful m
      law = lawful_of m is

      errors : ℕ → ℕ
      errors s = apart_in squared_distance m pixels s (fields_at squared_distance m part (without_alpha ends) pixels p)

      each : (s : ℕ) → s < 2 → errors s ≡ (closest_in m part ends p s cs).error
      each s two = own-error squared_distance m law part (without_alpha ends) pixels p s ∙ error_closest p s two

-- the colour of pixel i of fields
pub colour_rgb : (m : Mode) → IsMode m → (f : Fields) (i : ℕ) → get_or f.indices i 0 ≤ largest m →
    colour_at m (block_fields f) i ≡ opaque (palette_colour m f.ends f.p (subset_of 2 f.partition i) (get_or f.indices i 0))
unfolding colour_at
colour_rgb m is f i h =
    ap (λ (n : ℕ). palette_at m (without_alpha f.ends) f.p (subset_of n f.partition i) (get_or f.indices i 0)) (two_subsets m is)
    ∙ palette_opaque m is f.ends f.p (subset_of 2 f.partition i) (subset_two f.partition i) (get_or f.indices i 0) h
