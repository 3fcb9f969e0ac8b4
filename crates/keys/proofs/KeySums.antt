-- Laws of keys as sums: a key is the raised distance times the scale, and the index.
use Prim.Native.Nat.{ℕ, ◌+◌, ◌-◌, ◌*◌, ◌/◌, ◌%◌, ◌^◌, ◌≤◌, ◌<◌}
use native.Mathlib.Nat.{mul-add, add-mul, mul_comm, mul_assoc, mul-le-mul}
use native.Mathlib.Omega.{arith}
use mathlib.Core.Path.{◌≡◌, refl, sym, ap, ◌∙◌}
use mathlib.Core.Bool.{Bool, true, false}
use mathlib.Core.List.{List, map}
use lib.Dec.{leb, ltb}
use lib.ListN.{get_or, length, length-map, get_or-eq_default}
use borrow.Author.Tests.{leb-true, leb-false, ltb-true, ltb-false}
use Rattle.bptc.specs.declared.Rgb.{Rgb}
use Rattle.lists.specs.Rows.{up_from}
use Rattle.bptc.specs.Internal.Colour.{Below, dist_sq, dot, norm}
use Rattle.bptc.specs.Colour.{sq_diff}
use Rattle.bptc.specs.Internal.Pixels.{pixel_of}
use Rattle.lists.proofs.Rows.{length-up_from, get_or-each}
use Rattle.bptc.proofs.ColourBounds.{sq_up, sq_down, square_byte}
use Rattle.keys.specs.Keys.{own_of, step_of, sum_key, bias, key_at, Steps}

-- a colour has bytes for channels, whatever the number
pub pixel-byte : (x : ℕ) → Below 256 (pixel_of x)
unfolding pixel_of
pixel-byte x = record { r = omega arith; g = omega arith; b = omega arith }

-- the greatest squared length
pub norm-byte : (c : Rgb) → Below 256 c → norm c ≤ 195075
unfolding norm dot
norm-byte c h = omega (arith, h, square_byte c.r (omega (arith, h)), square_byte c.g (omega (arith, h)), square_byte c.b (omega (arith, h)))

-- the squares of the three bytes of a number
pub squares : (x : ℕ) → ((x % 256) * (x % 256) ≤ 65025) × ((x / 256 % 256) * (x / 256 % 256) ≤ 65025) × ((x / 65536 % 256) * (x / 65536 % 256) ≤ 65025)
squares x = (square_byte (x % 256) (omega arith), square_byte (x / 256 % 256) (omega arith), square_byte (x / 65536 % 256) (omega arith))

-- (c - p)² = p² + c² - 2 p c
apart_up : (p c : ℕ) → p ≤ c → (c - p) * (c - p) + 2 * (p * c) ≡ p * p + c * c
apart_up p c h =
    let e : p + (c - p) ≡ c = omega arith in
    rw e at (go (c - p))
  where
    go : (k : ℕ) → k * k + 2 * (p * (p + k)) ≡ p * p + (p + k) * (p + k)
    go k = omega (arith, mul-add p p k, add-mul p k (p + k), mul-add k p k, mul_comm k p)

sq_apart : (p c : ℕ) → sq_diff p c + 2 * (p * c) ≡ p * p + c * c
sq_apart p c = go (leb p c) refl
  where
    go : (t : Bool) → leb p c ≡ t → sq_diff p c + 2 * (p * c) ≡ p * p + c * c
    go true e = rw (sq_up p c (leb-true p c e)) (apart_up p c (leb-true p c e))
    go false e =
        let h : c ≤ p = omega (arith, leb-false p c e) in
        omega (arith, sq_down p c h, apart_up c p h, mul_comm p c)

-- one channel: c² + 2 p (255 - c) is the squared difference, raised by what the pixel alone gives
pub channel-sum : (p c : ℕ) → p < 256 → c < 256 → c * c + 2 * (p * (255 - c)) ≡ sq_diff p c + p * (510 - p)
channel-sum p c h k =
    let e : (255 - c) + c ≡ 255 = omega arith in
    let f : (510 - p) + p ≡ 510 = omega arith in
    let x : p * 255 ≡ p * (255 - c) + p * c = rw e at (mul-add p (255 - c) c) in
    let y : p * 510 ≡ p * (510 - p) + p * p = rw f at (mul-add p (510 - p) p) in
    omega (arith, sq_apart p c)

-- a step at a scale
step_scaled : (p x scale : ℕ) → p * (x * (2 * scale)) ≡ (2 * (p * x)) * scale
step_scaled p x scale =
    sym (mul_assoc p x (2 * scale)) ∙ sym (mul_assoc (p * x) 2 scale) ∙ ap (λ (n : ℕ). n * scale) (mul_comm (p * x) 2)

-- a key is the raised distance times the scale, and the index
pub key-sum : (scale : ℕ) (p c : Rgb) (j : ℕ) → Below 256 p → Below 256 c → sum_key scale p c j ≡ (dist_sq p c + bias p) * scale + j
unfolding sum_key own_of step_of bias dist_sq norm dot
key-sum scale p c j h k =
    let x : ℕ = p.r * (255 - c.r) in
    let y : ℕ = p.g * (255 - c.g) in
    let z : ℕ = p.b * (255 - c.b) in
    let n : ℕ = c.r * c.r + c.g * c.g + c.b * c.b in
    let e : sq_diff p.r c.r + sq_diff p.g c.g + sq_diff p.b c.b + (p.r * (510 - p.r) + p.g * (510 - p.g) + p.b * (510 - p.b)) ≡ n + 2 * x + 2 * y + 2 * z =
    omega (arith, channel-sum p.r c.r h.r k.r, channel-sum p.g c.g h.g k.g, channel-sum p.b c.b h.b k.b) in
    let f : (n + 2 * x + 2 * y + 2 * z) * scale ≡ n * scale + (2 * x) * scale + (2 * y) * scale + (2 * z) * scale =
    omega (arith, add-mul (n + 2 * x + 2 * y) (2 * z) scale, add-mul (n + 2 * x) (2 * y) scale, add-mul n (2 * x) scale) in
    let g : (sq_diff p.r c.r + sq_diff p.g c.g + sq_diff p.b c.b + (p.r * (510 - p.r) + p.g * (510 - p.g) + p.b * (510 - p.b))) * scale ≡ (n + 2 * x + 2 * y + 2 * z) * scale =
    ap (λ (m : ℕ). m * scale) e in
    omega (arith, f, g, step_scaled p.r (255 - c.r) scale, step_scaled p.g (255 - c.g) scale, step_scaled p.b (255 - c.b) scale)

-- a key by numbers that are in range
pub key_small : (n : ℕ) (numbers : List ℕ) (p : Rgb) (k : ℕ) → Steps n numbers → Below 256 p → k < n → key_at n numbers p k < 2 ^ 23
unfolding key_at
key_small n numbers p k s h l =
    let product : (a x : ℕ) → a < 256 → x ≤ 4080 → a * x ≤ 1040400 = λ a x l m. mul-le-mul {n₂ = 255} {m₂ = 4080} (omega arith) m in
    omega (
      arith,
      product p.r (get_or numbers k 0) h.r (s.channel k (omega arith)),
      product p.g (get_or numbers (k + n) 0) h.g (s.channel (k + n) (omega arith)),
      product p.b (get_or numbers (k + n * 2) 0) h.b (s.channel (k + n * 2) (omega arith)),
      s.alone k l,
    )

-- a function's values below a bound, as a list
pub small_each : (f : ℕ → ℕ) (n top : ℕ) → 0 < top → ((i : ℕ) → i < n → f i < top) → (i : ℕ) → get_or (map f (up_from 0 n)) i 0 < top
small_each f n top some h i = go (ltb i n) refl
  where
    go : (t : Bool) → ltb i n ≡ t → get_or (map f (up_from 0 n)) i 0 < top
    go true e = rw (get_or-each 0 f n i (ltb-true i n e)) (h i (ltb-true i n e))
    go false e =
        let l : length (map f (up_from 0 n)) ≡ n = simp (length-map, length-up_from) in
        rw (get_or-eq_default (map f (up_from 0 n)) 0 {n = i} (omega (arith, ltb-false i n e))) some
