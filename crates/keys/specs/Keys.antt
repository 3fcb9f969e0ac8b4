-- The keys that the search compares: a raised distance and an index in one, as a sum.
use Rattle.std.specs.Prelude.{ℕ, ◌+◌, ◌-◌, ◌*◌, ◌^◌, ◌≤◌, ◌<◌, ◌≡◌, List, min, get_or, length}
use Rattle.bptc.specs.declared.Rgb.{Rgb}
use Rattle.lists.specs.Digits.{bit}
use Rattle.bptc.specs.Internal.Colour.{black, each, colours_of, dot, norm}

-- what a colour at index j adds to each of its keys: its squared length times the scale, and the index
unfoldable pub own_of : ℕ → Rgb → ℕ → ℕ
own_of scale c j = norm c * scale + j

-- what a channel of a colour adds for each step of the pixel's channel
unfoldable pub step_of : ℕ → ℕ → ℕ
step_of scale x = (255 - x) * (2 * scale)

-- the key of a pixel and the colour at index j; the scale is above every index
unfoldable pub sum_key : ℕ → Rgb → Rgb → ℕ → ℕ
sum_key scale p c j = own_of scale c j + dot p (each (step_of scale) c)

-- the bias of a pixel's keys, by which its distances are raised: 195075 less the squared length of its complement
unfoldable pub bias : Rgb → ℕ
bias p = p.r * (510 - p.r) + p.g * (510 - p.g) + p.b * (510 - p.b)

-- the least of four numbers, taken in pairs
abbrev pub least_of4 : (ℕ → ℕ) → ℕ
least_of4 f = min (min (f 0) (f 1)) (min (f 2) (f 3))

-- the key of a pixel by the numbers of n colours, those of the colour at place k: red, green and blue, and what it adds by itself
unfoldable pub key_at : ℕ → List ℕ → Rgb → ℕ → ℕ
key_at n numbers p k =
    get_or numbers (k + n * 3) 0 + p.r * get_or numbers k 0 + p.g * get_or numbers (k + n) 0 + p.b * get_or numbers (k + n * 2) 0

-- the key of pixel i and the colour at index j of its subset's row, of n colours in rows of `width`
unfoldable pub pixel_key : ℕ → ℕ → List ℕ → List ℕ → ℕ → ℕ → ℕ → ℕ
pixel_key n width numbers px mask i j = key_at n numbers (get_or (colours_of px) i black) (bit mask i * width + j)

-- the numbers of n colours, in a range in which keys are below 2 ^ 23
pub record Steps (n : ℕ) (numbers : List ℕ) : Type 0 where
  pub whole : length numbers ≡ n * 4
  pub channel : (k : ℕ) → k < n * 3 → get_or numbers k 0 ≤ 4080
  pub alone : (k : ℕ) → k < n → get_or numbers (k + n * 3) 0 < 2 ^ 21
