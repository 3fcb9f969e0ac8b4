-- Pixels and their bytes: sixteen colours written k bytes to a pixel, and read again; and the distance of two colours.
use Prim.Native.Nat.{ℕ, ◌+◌, ◌*◌, ◌≤◌, ◌<◌}
use native.Mathlib.Omega.{arith}
use mathlib.Core.Path.{◌≡◌, refl, sym, ap, ◌∙◌}
use mathlib.Core.Bool.{Bool, true, false}
use mathlib.Core.List.{List}
use lib.Dec.{ltb}
use lib.ListN.{length, get_or, take, drop}
use lib.Seq.{get_or-take, get_or-drop, length-take-le}
use borrow.Author.Tests.{ltb-true, ltb-false}
use Rattle.lists.specs.Tests.{pick}
use Rattle.lists.specs.Parts.{joined}
use Rattle.lists.specs.Bytes.{Bytes}
use Rattle.lists.proofs.Rows.{get_or-each}
use Rattle.lists.proofs.Parts.{joined_length, joined_at}
use Rattle.lists.proofs.Bytes.{byte_lt}
use Rattle.bptc.specs.Colour.{Rgba, channels, channel, clear, rgb_of, pixel_in, pixels_of, pixel_bytes, squared_distance}
use Rattle.bptc.specs.Internal.Colour.{dist_sq, Below}
use Rattle.bptc.proofs.Colours.{by_same, colour-channels, channel_by}
use Rattle.bptc.proofs.ColourBounds.{dist_zero, dist_self, dist_byte}

-- a colour has four channels
four : (c : Rgba) (j : ℕ) → get_or (channels c) j 0 ≡ channel j c
unfolding channel
four c j = refl

module _ (k : ℕ) (few : k ≤ 4) (cs : List Rgba) where
  -- the bytes of pixel i
  abbrev part : ℕ → List ℕ
  part i = take k (channels (get_or cs i clear))

  -- k bytes for each
  pub bytes_long : length (pixel_bytes k cs) ≡ 16 * k
  unfolding pixel_bytes
  bytes_long = joined_length k part 16 (λ i h. length-take-le k (channels (get_or cs i clear)) few)

  -- a pixel of these bytes
  pub pixel_again : (i : ℕ) → i < 16 → ((j : ℕ) → k ≤ j → j < 4 → channel j (get_or cs i clear) ≡ 255) → pixel_in k (pixel_bytes k cs) i ≡ get_or cs i clear
  unfolding pixel_bytes
  pixel_again i h opaque =
      by_same _ (λ (j : ℕ). channel j (get_or cs i clear)) (λ j l. go j l (ltb j k) refl) ∙ colour-channels (get_or cs i clear)
    where
      go : (j : ℕ) → j < 4 → (t : Bool) → ltb j k ≡ t → pick t (get_or (joined part 16) (i * k + j) 0) 255 ≡ channel j (get_or cs i clear)
      go j l true e =
          let m : j < k = ltb-true j k e in
          sym (get_or-take k (drop (i * k) (joined part 16)) j 0 m ∙ get_or-drop (i * k) (joined part 16) j 0)
          ∙ ap (λ (xs : List ℕ). get_or xs j 0) (joined_at k part 16 i (λ i h. length-take-le k (channels (get_or cs i clear)) few) h)
          ∙ get_or-take k (channels (get_or cs i clear)) j 0 m
          ∙ four (get_or cs i clear) j
      go j l false e = sym (opaque j (ltb-false j k e) l)

-- each channel is a byte
abbrev pub Shown : Rgba → Type 0
Shown c = (j : ℕ) → j < 4 → channel j c < 256

-- the pixels of bytes have bytes for channels
pub pixels-shown : (k : ℕ) (px : List ℕ) → Bytes px → (i : ℕ) → i < 16 → Shown (get_or (pixels_of k px) i clear)
unfolding pixels_of
pixels-shown k px bs i h j l = rw (get_or-each clear (pixel_in k px) 16 i h, channel_by (λ (j : ℕ). pick (ltb j k) (get_or px (i * k + j) 0) 255) j l) (go (ltb j k))
  where
    go : (t : Bool) → pick t (get_or px (i * k + j) 0) 255 < 256
    go true = byte_lt px bs (i * k + j)
    go false = omega arith

-- the squared distance looks at three channels
pub squared-rgb : (c d : Rgba) → squared_distance c d ≡ dist_sq (rgb_of c) (rgb_of d)
unfolding squared_distance dist_sq
squared-rgb c d = refl

-- colours of one alpha at no distance are the same
pub squared_zero : (c d : Rgba) → c.a ≡ d.a → squared_distance c d ≡ 0 → c ≡ d
squared_zero c d alpha e =
    let q : rgb_of c ≡ rgb_of d = dist_zero (rgb_of c) (rgb_of d) (sym (squared-rgb c d) ∙ e) in
    λ i. record { r = (q i).r; g = (q i).g; b = (q i).b; a = alpha i }

-- a colour is at no distance from itself
pub squared_self : (c : Rgba) → squared_distance c c ≡ 0
squared_self c = squared-rgb c c ∙ dist_self (rgb_of c)

shown-rgb : (c : Rgba) → Shown c → Below 256 (rgb_of c)
unfolding channel
shown-rgb c h = record { r = h 0 (omega arith); g = h 1 (omega arith); b = h 2 (omega arith) }

-- the greatest distance is 3 × 255²
pub squared_byte : (c d : Rgba) → Shown c → Shown d → squared_distance c d ≤ 195075
squared_byte c d h l = rw (squared-rgb c d) (dist_byte (rgb_of c) (rgb_of d) (shown-rgb c h) (shown-rgb d l))
