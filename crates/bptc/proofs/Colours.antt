-- Laws of colours: they are their channels, and what a mode looks at of a stored colour tells what it shows.
use Prim.Native.Nat.{ℕ, zero, suc, ◌<◌, ◌≤◌}
use native.Mathlib.Omega.{arith}
use mathlib.Core.Path.{◌≡◌, refl, sym, ap, ap₂, ◌∙◌}
use mathlib.Core.Bool.{Bool, true, false}
use mathlib.Core.List.{List}
use lib.Dec.{ltb}
use lib.ListN.{length, length-map}
use borrow.Author.Tests.{lt-ltb, le-ltb, ltb-true, ltb-false}
use Rattle.lists.specs.Tests.{pick}
use Rattle.bptc.specs.Colour.{Rgba}
use Rattle.bptc.specs.declared.Rgb.{Rgb}
use Rattle.bptc.specs.Mode.{Mode}
use Rattle.bptc.specs.Colour.{colour_by, channel, stored, with_alpha, without_alpha}
use Rattle.bptc.specs.Shown.{shown_by, end_by}

-- channels that agree make the same colour
pub by_same : (f g : ℕ → ℕ) → ((j : ℕ) → j < 4 → f j ≡ g j) → colour_by f ≡ colour_by g
by_same f g h = λ t. record { r = h 0 (omega arith) t; g = h 1 (omega arith) t; b = h 2 (omega arith) t; a = h 3 (omega arith) t }

-- a colour is its channels
pub colour-channels : (c : Rgba) → colour_by (λ (j : ℕ). channel j c) ≡ c
unfolding channel
colour-channels c = refl

-- channel by channel
pub colour-same : (c d : Rgba) → ((j : ℕ) → j < 4 → channel j c ≡ channel j d) → c ≡ d
colour-same c d h = sym (colour-channels c) ∙ by_same (λ (j : ℕ). channel j c) (λ (j : ℕ). channel j d) h ∙ colour-channels d

-- a channel of a function's colour
pub channel_by : (f : ℕ → ℕ) (j : ℕ) → j < 4 → channel j (colour_by f) ≡ f j
unfolding channel
channel_by f zero h = refl
channel_by f (suc zero) h = refl
channel_by f (suc (suc zero)) h = refl
channel_by f (suc (suc (suc zero))) h = refl
channel_by f (suc (suc (suc (suc j)))) h = absurd (omega arith)

-- there is no other
pub channel_past : (c : Rgba) (j : ℕ) → 4 ≤ j → channel j c ≡ 0
unfolding channel
channel_past c zero h = absurd (omega arith)
channel_past c (suc zero) h = absurd (omega arith)
channel_past c (suc (suc zero)) h = absurd (omega arith)
channel_past c (suc (suc (suc zero))) h = absurd (omega arith)
channel_past c (suc (suc (suc (suc j)))) h = refl

module _ (m : Mode) (c : Rgba) where
  -- a channel that the mode has
  pub stored_in_lem : m.channels ≤ 4 → (j : ℕ) → j < m.channels → channel j (stored m c) ≡ channel j c
  unfolding stored
  stored_in_lem seen j h =
      channel_by (λ (j : ℕ). pick (ltb j m.channels) (channel j c) 0) j (omega arith) ∙ ap (λ (t : Bool). pick t (channel j c) 0) (lt-ltb j m.channels h)

  -- and one that it does not have
  pub stored_out : (j : ℕ) → m.channels ≤ j → channel j (stored m c) ≡ 0
  unfolding stored
  stored_out j h = go (ltb j 4) refl
    where
      go : (t : Bool) → ltb j 4 ≡ t → channel j (stored m c) ≡ 0
      go true e =
          channel_by (λ (j : ℕ). pick (ltb j m.channels) (channel j c) 0) j (ltb-true j 4 e)
          ∙ ap (λ (t : Bool). pick t (channel j c) 0) (le-ltb j m.channels h)
      go false e = channel_past (stored m c) j (ltb-false j 4 e)

-- a colour whose other channels are 0 stays
pub stored_still : (m : Mode) (c : Rgba) → m.channels ≤ 4 → ((j : ℕ) → m.channels ≤ j → channel j c ≡ 0) → stored m c ≡ c
stored_still m c seen h =
    colour-same (stored m c) c
    (λ j l.
    go j (ltb j m.channels) refl)
  where
    go : (j : ℕ) (t : Bool) → ltb j m.channels ≡ t → channel j (stored m c) ≡ channel j c
    go j true e = stored_in_lem m c seen j (ltb-true j m.channels e)
    go j false e =
        let past : m.channels ≤ j = ltb-false j m.channels e in
        stored_out m c j past ∙ sym (h j past)

-- once is enough
pub stored_twice : (m : Mode) (c : Rgba) → m.channels ≤ 4 → stored m (stored m c) ≡ stored m c
stored_twice m c seen = stored_still m (stored m c) seen (stored_out m c)

-- what is shown looks at no more
pub end_stored : (m : Mode) (p : ℕ) (c : Rgba) → m.channels ≤ 4 → end_by m p (stored m c) ≡ end_by m p c
unfolding end_by
end_stored m p c seen = by_same _ _ (λ j l. go j (ltb j m.channels) refl)
  where
    go : (j : ℕ) (t : Bool) → ltb j m.channels ≡ t →
        pick t (shown_by m.channel_bits m.own_bits p (channel j (stored m c))) 255 ≡ pick t (shown_by m.channel_bits m.own_bits p (channel j c)) 255
    go j true e = ap (shown_by m.channel_bits m.own_bits p) (stored_in_lem m c seen j (ltb-true j m.channels e))
    go j false e = refl

-- so colours that are stored alike show the same by the same p-bit
pub end_same : (m : Mode) (p q : ℕ) (c d : Rgba) → m.channels ≤ 4 → stored m c ≡ stored m d → p ≡ q → end_by m p c ≡ end_by m q d
end_same m p q c d seen e b = sym (end_stored m p c seen) ∙ ap₂ (end_by m) b e ∙ end_stored m q d seen

-- an endpoint without alpha for each
pub without-length : (ends : List Rgb) → length (without_alpha ends) ≡ length ends
unfolding without_alpha
without-length ends = length-map ends (with_alpha 0)
