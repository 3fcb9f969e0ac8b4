-- Laws of colours: of those that bytes stand for, and of the greatest distance.
use Prim.Native.Nat.{ℕ, zero, suc, ◌+◌, ◌-◌, ◌*◌, ◌/◌, ◌≤◌, ◌<◌}
use native.Mathlib.Nat.{mul-le-mul, mul-le-mul_right, zero-add, add-zero}
use native.Mathlib.Omega.{arith}
use mathlib.Core.Path.{◌≡◌, refl, ap}
use mathlib.Core.List.{List, [], ◌∷◌}
use lib.ListN.{get_or, length}
use Rattle.lists.specs.Bytes.{Bytes}
use Rattle.bptc.specs.declared.Rgb.{Rgb}
use Rattle.bptc.specs.Internal.Pixels.{pixel_word, pixel_of}
use Rattle.bptc.specs.Internal.Colour.{rgb_at, black, Below, colours_of, bytes_of, dist_sq}
use Rattle.bptc.specs.Colour.{sq_diff}

-- colours with the same channels
pub rgb_eq : {r r' g g' b b' : ℕ} → r ≡ r' → g ≡ g' → b ≡ b' → ◌≡◌ {A = Rgb} (record { r = r; g = g; b = b }) (record { r = r'; g = g'; b = b' })
rgb_eq p q s = λ i. record { r = p i; g = q i; b = s i }

-- black is below any bound
pub below-black : (top : ℕ) → 0 < top → Below top black
below-black top h = record { r = h; g = h; b = h }

-- the colours of bytes have bytes for channels
pub pixels-shown : (px : List ℕ) → Bytes px → (i : ℕ) → Below 256 (get_or (colours_of px) i black)
unfolding colours_of
pixels-shown [] h i = below-black 256 (omega arith)
pixels-shown (r ∷ []) h i = below-black 256 (omega arith)
pixels-shown (r ∷ (g ∷ [])) h i = below-black 256 (omega arith)
pixels-shown (r ∷ (g ∷ (b ∷ bs))) h zero = record { r = h 0 (omega arith); g = h 1 (omega arith); b = h 2 (omega arith) }
pixels-shown (r ∷ (g ∷ (b ∷ bs))) h (suc i) = pixels-shown bs (λ k l. h (suc (suc (suc k))) (omega arith)) i

-- the colour at place i
pub colour-at : (px : List ℕ) (i : ℕ) → i * 3 + 2 < length px → get_or (colours_of px) i black ≡ rgb_at px i
unfolding colours_of
colour-at [] i h = absurd (omega arith)
colour-at (r ∷ []) i h = absurd (omega arith)
colour-at (r ∷ (g ∷ [])) i h = absurd (omega arith)
colour-at (r ∷ (g ∷ (b ∷ bs))) zero h = refl
colour-at (r ∷ (g ∷ (b ∷ bs))) (suc i) h =
    let e : suc i * 3 ≡ suc (suc (suc (i * 3))) = omega arith in
    let f : suc i * 3 + 1 ≡ suc (suc (suc (i * 3 + 1))) = omega arith in
    let g : suc i * 3 + 2 ≡ suc (suc (suc (i * 3 + 2))) = omega arith in
    rw (f, g, e) (colour-at bs i (omega arith))

-- one for each three bytes
pub colours-length : (px : List ℕ) → length (colours_of px) ≡ length px / 3
unfolding colours_of
colours-length [] = refl
colours-length (r ∷ []) = refl
colours-length (r ∷ (g ∷ [])) = refl
colours-length (r ∷ (g ∷ (b ∷ bs))) = omega (arith, colours-length bs)

-- colours to bytes and back
pub colours-bytes : (cs : List Rgb) → colours_of (bytes_of cs) ≡ cs
unfolding colours_of bytes_of
colours-bytes [] = refl
colours-bytes (c ∷ cs) = ap {B = List Rgb} (λ l. c ∷ l) (colours-bytes cs)

-- three bytes for each
pub bytes-length : (cs : List Rgb) → length (bytes_of cs) ≡ 3 * length cs
unfolding bytes_of
bytes-length [] = refl
bytes-length (c ∷ cs) = omega (arith, bytes-length cs)

-- a squared difference, from the lower number
pub sq_up : (a b : ℕ) → a ≤ b → sq_diff a b ≡ (b - a) * (b - a)
unfolding sq_diff
sq_up a b h =
    let e : a - b ≡ 0 = omega arith in
    rw (e, zero-add)

-- and from the higher one
pub sq_down : (a b : ℕ) → b ≤ a → sq_diff a b ≡ (a - b) * (a - b)
unfolding sq_diff
sq_down a b h =
    let e : b - a ≡ 0 = omega arith in
    rw (e, add-zero)

-- the product of two bytes
pub product_byte : (a b : ℕ) → a < 256 → b < 256 → a * b ≤ 65025
product_byte a b h k = mul-le-mul {n₂ = 255} {m₂ = 255} (omega arith) (omega arith)

-- the square of a number up to 255
pub square_byte : (n : ℕ) → n ≤ 255 → n * n ≤ 65025
square_byte n h = product_byte n n (omega arith) (omega arith)

-- the greatest distance is 3 × 255²
sq_byte : (a b : ℕ) → a < 256 → b < 256 → sq_diff a b ≤ 65025
unfolding sq_diff
sq_byte a b ha hb =
    let x : (a - b) * (a - b) ≤ 255 * (a - b) = mul-le-mul_right (a - b) (omega arith) in
    let y : (b - a) * (b - a) ≤ 255 * (b - a) = mul-le-mul_right (b - a) (omega arith) in
    omega arith

-- of two colours that are shown
pub dist_byte : (c d : Rgb) → Below 256 c → Below 256 d → dist_sq c d ≤ 195075
unfolding dist_sq
dist_byte c d h k = omega (arith, sq_byte _ _ h.r k.r, sq_byte _ _ h.g k.g, sq_byte _ _ h.b k.b)

sq_zero : (a b : ℕ) → sq_diff a b ≡ 0 → a ≡ b
unfolding sq_diff
sq_zero a b e =
    let (x, y) = add-zero_parts ((a - b) * (a - b)) ((b - a) * (b - a)) e in
    omega (arith, square_zero (a - b) x, square_zero (b - a) y)
  where
    add-zero_parts : (x y : ℕ) → x + y ≡ 0 → (x ≡ 0) × (y ≡ 0)
    add-zero_parts x y e = (omega arith, omega arith)

    square_zero : (n : ℕ) → n * n ≡ 0 → n ≡ 0
    square_zero zero e = refl
    square_zero (suc n) e = absurd (omega arith)

-- colours at no distance are the same, and the other way round
pub dist_zero : (c d : Rgb) → dist_sq c d ≡ 0 → c ≡ d
unfolding dist_sq
dist_zero c d e =
    rgb_eq (sq_zero c.r d.r (omega (arith, e))) (sq_zero c.g d.g (omega (arith, e))) (sq_zero c.b d.b (omega (arith, e)))

sq_self : (a : ℕ) → sq_diff a a ≡ 0
unfolding sq_diff
sq_self a = let e : a - a ≡ 0 = omega arith in rw e

-- a colour is at no distance from itself
pub dist_self : (c : Rgb) → dist_sq c c ≡ 0
unfolding dist_sq
dist_self c = rw (sq_self c.r, sq_self c.g, sq_self c.b)

-- a colour's number stands for the colour
pub word-pixel : (c : Rgb) → Below 256 c → pixel_of (pixel_word c) ≡ c
unfolding pixel_of pixel_word
word-pixel c h = rgb_eq (omega (arith, h)) (omega (arith, h)) (omega (arith, h))
