-- What finishing gives is nearest, whether the p-bits are fixed or free.
use Prim.Native.Nat.{ℕ, ◌+◌, ◌≤◌, ◌<◌}
use native.Mathlib.Omega.{arith}
use mathlib.Core.Path.{◌≡◌}
use mathlib.Core.List.{List}
use Rattle.lists.specs.Rows.{over_pixels}
use Rattle.bptc.specs.declared.Rgb.{Rgb}
use Rattle.bptc.specs.Mode.{Mode, IsMode}
use Rattle.bptc.specs.Internal.Masks.{mask_of}
use Rattle.bptc.specs.Internal.Colour.{colours_of}
use Rattle.bptc_block.specs.declared.PBits.{PBits}
use Rattle.closest.specs.Found.{found_at}
use Rattle.closest.specs.Pick.{bits_for}
use Rattle.closest.specs.Nearest.{index_at, distance_at, FindsNearest}
use Rattle.closest.proofs.Nearest.{finds_nearest}
use Rattle.choices.proofs.Subsets.{over-all}
use Rattle.choices.proofs.Picking.{over-sum}
use Rattle.finishing.specs.Indices.{nearest_at, nearest_for}
use Rattle.finishing.specs.Given.{GivesNearest}

module _ (m : Mode) (is : IsMode m) (part : ℕ) (ends : List Rgb) (px : List ℕ) where
  -- the errors of both subsets are the distances in sum
  error_is : (p : ℕ) → (nearest_at m part ends px p).error
      ≡ over_pixels (λ (i : ℕ). distance_at m ends p (mask_of part) (colours_of px) i (index_at m (found_at m ends p (mask_of part) (colours_of px)) i))
  unfolding nearest_at found_at
  error_is p = omega (
    arith,
    over-sum m is part ends (colours_of px) p (over-all m part ends (colours_of px) p),
    (finds_nearest m ends p (mask_of part) (colours_of px)).all,
  )

  -- at any p-bits
  nearest_there : (p : ℕ) → GivesNearest m ends part (colours_of px) (nearest_at m part ends px p)
  unfolding nearest_at found_at
  nearest_there p =
      let found : FindsNearest m ends p (mask_of part) (colours_of px) (found_at m ends p (mask_of part) (colours_of px)) = finds_nearest m ends p (mask_of part) (colours_of px) in
      record {
        within = found.within;
        least = found.least;
        first = found.first;
        error = error_is p;
      }

  -- at those that are fixed, or that finishing finds
  pub gives_nearest : (ps : PBits) → GivesNearest m ends part (colours_of px) (nearest_for m part ends ps px)
  gives_nearest ps = nearest_there (bits_for m part ends ps px)
