-- The box around the colours of a subset.
use Rattle.std.specs.Prelude.{ℕ, zero, suc, ◌≤◌, ◌<◌, min, max, ◌≡◌, Bool, List, map, eqb, get_or}
use Rattle.lists.specs.Bytes.{Bytes}
use Rattle.lists.specs.Tests.{pick}
use Rattle.lists.specs.Rows.{up_from}
use Rattle.lists.specs.Digits.{bit}
use Rattle.bptc.specs.declared.Rgb.{Rgb}
use Rattle.bptc.specs.Internal.Colour.{black, both, colours_of}
use Rattle.bptc.specs.Partition.{subset_of}
use Rattle.corners.specs.declared.Bounds.{Bounds}
use Rattle.corners.specs.declared.Planes.{Planes}
use Rattle.corners.specs.declared.Boxes.{Boxes}

-- the box around no colour
abbrev pub nowhere : Bounds
nowhere = record { low = record { r = 255; g = 255; b = 255 }; high = black }

-- the box that also holds a colour
unfoldable pub widened : Bounds → Rgb → Bounds
widened k c = record { low = both min k.low c; high = both max k.high c }

-- the box around those of the first n colours that a test picks
unfoldable pub box_to : (ℕ → Rgb) → (ℕ → Bool) → ℕ → Bounds
box_to colour inside zero = nowhere
box_to colour inside (suc n) =
    let k : Bounds = box_to colour inside n in
    pick (inside n) (widened k (colour n)) k

-- the box around those of the first n pixels that are in subset s
unfoldable pub corners_to : List ℕ → ℕ → ℕ → ℕ → Bounds
corners_to px partition s n = box_to (λ (i : ℕ). get_or (colours_of px) i black) (λ (i : ℕ). eqb (subset_of 2 partition i) s) n

-- the box around the subset's pixels
unfoldable pub corners_of : List ℕ → ℕ → ℕ → Bounds
corners_of px partition s = corners_to px partition s 16

-- the channels of sixteen pixels, each channel by itself
unfoldable pub planes_of : List ℕ → Planes
planes_of px =
    record {
      r = map (λ (i : ℕ). (get_or (colours_of px) i black).r) (up_from 0 16);
      g = map (λ (i : ℕ). (get_or (colours_of px) i black).g) (up_from 0 16);
      b = map (λ (i : ℕ). (get_or (colours_of px) i black).b) (up_from 0 16);
    }

-- the colour of pixel i
abbrev pub colour_in : Planes → ℕ → Rgb
colour_in p i = record { r = get_or p.r i 0; g = get_or p.g i 0; b = get_or p.b i 0 }

-- the boxes around both subsets of a partition's mask
unfoldable pub boxes_of : Planes → ℕ → Boxes
boxes_of p mask =
    record {
      first = box_to (colour_in p) (λ (i : ℕ). eqb (bit mask i) 0) 16;
      second = box_to (colour_in p) (λ (i : ℕ). eqb (bit mask i) 1) 16;
    }

-- each channel of a colour is at most that of another
pub record AtMost (c d : Rgb) : Type 0 where
  pub r : c.r ≤ d.r
  pub g : c.g ≤ d.g
  pub b : c.b ≤ d.b

-- a colour lies in a box
pub record Inside (k : Bounds) (c : Rgb) : Type 0 where
  pub above : AtMost k.low c
  pub below : AtMost c k.high

-- every pixel of a subset lies in the box around the subset
abbrev pub Boxed : Type 0
Boxed =
    (px : List ℕ) (partition s i : ℕ) → i < 16 → subset_of 2 partition i ≡ s →
    Inside (corners_of px partition s) (get_or (colours_of px) i black)

-- among the first n pixels one of subset s has this value in a channel
pub record Touched (px : List ℕ) (partition s n : ℕ) (channel : Rgb → ℕ) (value : ℕ) : Type 0 where
  pub pixel : ℕ
  pub inside : pixel < n
  pub member : subset_of 2 partition pixel ≡ s
  pub same : channel (get_or (colours_of px) pixel black) ≡ value

-- each channel of a corner is that of a pixel of the subset
pub record Reached (px : List ℕ) (partition s : ℕ) (corner : Rgb) : Type 0 where
  pub r : Touched px partition s 16 (λ c. c.r) corner.r
  pub g : Touched px partition s 16 (λ c. c.g) corner.g
  pub b : Touched px partition s 16 (λ c. c.b) corner.b

-- no smaller box holds a subset that has a pixel: each face touches one of its pixels
abbrev pub Tight : Type 0
Tight =
    (px : List ℕ) (partition s i : ℕ) → Bytes px → i < 16 → subset_of 2 partition i ≡ s →
    Reached px partition s (corners_of px partition s).low × Reached px partition s (corners_of px partition s).high
