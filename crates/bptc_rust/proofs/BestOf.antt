-- The inner loop of closest, whose test is strict, finds the nearest index and its distance.
use Prim.Native.Nat.{ℕ, zero, suc, ◌-◌, ◌*◌, ◌≤◌, ◌<◌}
use native.Mathlib.Nat.{add-zero, zero-add, le_of_lt, sub-eq-zero_of_le}
use native.Mathlib.Omega.{arith}
use mathlib.Core.Path.{◌≡◌, refl, sym, ap, ap₂, ◌∙◌}
use mathlib.Core.Bool.{Bool, true, false}
use mathlib.Core.List.{List, map}
use lib.Dec.{leb, ltb}
use borrow.Author.Tests.{leb-true, leb-false, lt-ltb}
use Rattle.lists.specs.Tests.{pick}
use Rattle.lists.specs.Rows.{up_from}
use Rattle.lists.specs.Least.{first_least}
use Rattle.lists.proofs.Tests.{pick-map}
use Rattle.lists.proofs.Least.{strict, least-same}
use Rattle.bptc.specs.declared.Rgb.{Rgb}
use Rattle.bptc.specs.Mode.{Mode, largest}
use Rattle.bptc.specs.Colour.{Rgba, channel, sq_diff, squared_distance}
use Rattle.bptc.specs.Shown.{end_shown}
use Rattle.bptc.specs.Palette.{shade, palette_of, nearest_by, nearest}
use Rattle.bptc.specs.Internal.Colour.{Below, dist_sq}
use Rattle.bptc.specs.Internal.Palette.{shade_rgb, row}
use Rattle.bptc.proofs.Modes.{Shades}
use Rattle.bptc.proofs.ColourBounds.{sq_up, sq_down}
use Rattle.bptc.proofs.Pixels.{Shown, squared_byte}
use Rattle.bptc.proofs.Palettes.{shade_byte}
use Rattle.bptc.proofs.Opaque.{opaque}
use Rattle.bptc_block.specs.Finish.{nearest_apart}
use Rattle.bptc_rust.specs.Words.{loop, enumerate}
use Rattle.bptc_rust.specs.Colour.{difference, rust_dist_sq}
use Rattle.bptc_rust.specs.Palette.{palette_rgb, best_of}
use Rattle.bptc_rust.proofs.Painting.{Paints}

square : (a b : ℕ) → difference a b * difference a b ≡ sq_diff a b
square a b = go (leb a b) refl
  where
    go : (t : Bool) → leb a b ≡ t → difference a b * difference a b ≡ sq_diff a b
    go true e = rw (sub-eq-zero_of_le (leb-true a b e), zero-add (b - a)) (sym (sq_up a b (leb-true a b e)))
    go false e =
        let h : b ≤ a = le_of_lt (leb-false a b e) in
        rw (sub-eq-zero_of_le h, add-zero (a - b)) (sym (sq_down a b h))

-- dist_sq
pub dist_same : (c d : Rgb) → rust_dist_sq c d ≡ dist_sq c d
unfolding rust_dist_sq dist_sq
dist_same c d = rw (square c.r d.r, square c.g d.g, square c.b d.b)

-- over the colours of a function, one after the other
module _ (P : ℕ → Rgb) (p : Rgb) where
  -- the distance at an index
  abbrev d : ℕ → ℕ
  d i = dist_sq p (P i)

  -- one step of the loop
  abbrev body : ℕ × ℕ → ℕ × Rgb → ℕ × ℕ
  body best e = pick (ltb (rust_dist_sq p e.1) best.1) (e.0, rust_dist_sq p e.1) best

  keep : (b n : ℕ) → body (b, d b) (n, P n) ≡ (pick (leb (d b) (d n)) b n, d (pick (leb (d b) (d n)) b n))
  keep b n = rw dist_same (strict (d b) (d n) (b, d b) (n, d n) ∙ sym (pick-map {B = ℕ × ℕ} (λ (i : ℕ). (i, d i)) (leb (d b) (d n)) b n))

  best_on : (k n b : ℕ) → loop (enumerate n (map P (up_from n k))) (b, d b) body
      ≡ (first_least d b (up_from n k), d (first_least d b (up_from n k)))
  unfolding first_least
  best_on zero n b = refl
  best_on (suc k) n b =
      ap (λ (s : ℕ × ℕ). loop (enumerate (suc n) (map P (up_from (suc n) k))) s body) (keep b n)
      ∙ best_on k (suc n) (pick (leb (d b) (d n)) b n)

  best_found : (k : ℕ) → d 0 < 4294967295 → best_of (map P (up_from 0 (suc k))) p
      ≡ (first_least d 0 (up_from 1 k), d (first_least d 0 (up_from 1 k)))
  unfolding best_of
  best_found k h = ap (λ (s : ℕ × ℕ). loop (enumerate 1 (map P (up_from 1 k))) s body) (rw (dist_same, lt-ltb (d 0) 4294967295 h))
      ∙ best_on k 1 0

-- a colour of bytes is shown
opaque_shown : (c : Rgb) → Below 256 c → Shown (opaque c)
unfolding channel
opaque_shown c h zero l = h.r
opaque_shown c h (suc zero) l = h.g
opaque_shown c h (suc (suc zero)) l = h.b
opaque_shown c h (suc (suc (suc zero))) l = omega arith
opaque_shown c h (suc (suc (suc (suc j)))) l = absurd (omega arith)

-- over the palette between two colours, which two stored endpoints show with their own p-bits
module _ (m : Mode) (x y : Rgba) (q : ℕ) (a b : Rgb) (low : end_shown m q 0 x ≡ opaque a) (high : end_shown m q 1 y ≡ opaque b) where
  palette_far : (c : Rgb) (i : ℕ) → dist_sq c (shade_rgb m a b i) ≡ squared_distance (opaque c) (palette_of m x y q i)
  unfolding palette_of shade shade_rgb squared_distance dist_sq
  palette_far c i = ap₂ (λ (u v : Rgba). squared_distance (opaque c) (shade m u v i)) (sym low) (sym high)

  near_same : (c : Rgb) → nearest_by dist_sq (shade_rgb m a b) (largest m) c ≡ nearest squared_distance m x y q (opaque c)
  unfolding nearest_by
  near_same c = least-same _ _ (up_from 1 (largest m)) 0 (λ i h. palette_far c i)

  far_small : Shades m → Shown (end_shown m q 0 x) → Shown (end_shown m q 1 y) → (c : Rgb) → Below 256 c →
      dist_sq c (shade_rgb m a b 0) ≤ 195075
  unfolding palette_of
  far_small shades u v c h = rw (palette_far c 0) (squared_byte _ _ (opaque_shown c h) (shade_byte m shades _ _ 0 (omega arith) u v))

  -- the nearest index and its distance
  pub best_nearest : Shades m → Paints m → Shown (end_shown m q 0 x) → Shown (end_shown m q 1 y) → (c : Rgb) → Below 256 c →
      best_of (palette_rgb m.index_bits a b) c
      ≡ (nearest squared_distance m x y q (opaque c), nearest_apart squared_distance m x y q (opaque c))
  unfolding nearest_by nearest_apart row
  best_nearest shades paints u v c h =
      let near = near_same c in
      let far = ap (λ (i : ℕ). dist_sq c (shade_rgb m a b i)) near ∙ palette_far c (nearest squared_distance m x y q (opaque c)) in
      ap (λ (palette : List Rgb). best_of palette c) (paints a b)
      ∙ best_found (shade_rgb m a b) c (largest m) (omega (arith, far_small shades u v c h))
      ∙ (λ i. (near i, far i))
