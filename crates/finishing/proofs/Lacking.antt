-- What the bytes of sixteen pixels lack to 255, squared and summed, and what the pixels are raised by make the greatest distance.
use Prim.Native.Nat.{ℕ, zero, suc, ◌+◌, ◌-◌, ◌*◌, ◌<◌}
use native.Mathlib.Numerals.{add-one}
use native.Mathlib.Omega.{arith}
use mathlib.Core.Path.{◌≡◌, refl, sym, ap, ap₂, ◌∙◌}
use mathlib.Core.List.{List}
use lib.ListN.{get_or, length}
use Rattle.lists.specs.Bytes.{Bytes}
use Rattle.lists.specs.Rows.{sum_to, over_pixels}
use Rattle.bptc.specs.Internal.Colour.{black, colours_of}
use Rattle.lists.proofs.Bytes.{byte_lt}
use Rattle.lists.proofs.Sums.{sum_to-suc, pixels-same, pixels-add}
use Rattle.bptc.proofs.ColourBounds.{colour-at, sq_up}
use Rattle.keys.specs.Keys.{bias}
use Rattle.closest.specs.Pick.{bias_all}
use Rattle.keys.proofs.KeySums.{channel-sum}

-- three places at a time
by_three : (f : ℕ → ℕ) (k : ℕ) → sum_to f (k * 3) ≡ sum_to (λ (i : ℕ). f (i * 3) + f (i * 3 + 1) + f (i * 3 + 2)) k
by_three f zero = refl
by_three f (suc k) =
    let g : ℕ → ℕ = λ (i : ℕ). f (i * 3) + f (i * 3 + 1) + f (i * 3 + 2) in
    let e : suc k * 3 ≡ k * 3 + 1 + 1 + 1 = omega arith in
    let d : k * 3 + 1 + 1 ≡ k * 3 + 2 = omega arith in
    let order : (x a b c : ℕ) → x + a + b + c ≡ x + (a + b + c) = λ x a b c. omega arith in
    ap (sum_to f) e
    ∙ sum_to-suc f (k * 3 + 1 + 1)
    ∙ ap₂ ◌+◌ (sum_to-suc f (k * 3 + 1) ∙ ap (λ (n : ℕ). n + f (k * 3 + 1)) (sum_to-suc f (k * 3) ∙ ap (λ (n : ℕ). n + f (k * 3)) (by_three f k))) (ap f d)
    ∙ order (sum_to g k) (f (k * 3)) (f (k * 3 + 1)) (f (k * 3 + 2))
    ∙ sym (sum_to-suc g k)
    ∙ ap (sum_to g) (add-one k)

-- the square of what byte j lacks
abbrev pub lack_at : List ℕ → ℕ → ℕ
lack_at px j = (255 - get_or px j 0) * (255 - get_or px j 0)

-- of one byte: the square of what it lacks, and what it is raised by
channel : (x : ℕ) → x < 256 → (255 - x) * (255 - x) + x * (510 - x) ≡ 65025
channel x h = omega (arith, channel-sum x 255 h (omega arith), sq_up x 255 (omega arith))

module _ (px : List ℕ) (bytes : Bytes px) (long : length px ≡ 48) where
  -- of pixel i
  abbrev pixel_lack : ℕ → ℕ
  pixel_lack i = lack_at px (i * 3) + lack_at px (i * 3 + 1) + lack_at px (i * 3 + 2)

  -- the sum of both for a pixel
  pixel-sum : (i : ℕ) → i < 16 → pixel_lack i + bias (get_or (colours_of px) i black) ≡ 195075
  unfolding bias
  pixel-sum i h =
      rw (colour-at px i (omega arith))
      (omega (arith, channel (get_or px (i * 3) 0) (byte_lt px bytes (i * 3)), channel (get_or px (i * 3 + 1) 0) (byte_lt px bytes (i * 3 + 1)), channel (get_or px (i * 3 + 2) 0) (byte_lt px bytes (i * 3 + 2))))

  -- the sum over bytes is the sum over pixels
  by_pixels : sum_to (lack_at px) 48 ≡ over_pixels pixel_lack
  unfolding over_pixels
  by_pixels = by_three (lack_at px) 16

  -- both together
  pub lacking-raised : sum_to (lack_at px) 48 + bias_all (colours_of px) ≡ 3121200
  unfolding bias_all over_pixels
  lacking-raised =
      ap (λ (n : ℕ). n + bias_all (colours_of px)) by_pixels
      ∙ sym (pixels-add pixel_lack (λ (i : ℕ). bias (get_or (colours_of px) i black)))
      ∙ pixels-same (λ (i : ℕ). pixel_lack i + bias (get_or (colours_of px) i black)) (λ (i : ℕ). 195075) pixel-sum
