-- Stored endpoints in three channels: what is in range, as the code has it and as the definitions have it.
use Prim.Native.Nat.{ℕ, zero, suc, ◌^◌, ◌<◌}
use native.Mathlib.Omega.{arith}
use mathlib.Core.Path.{◌≡◌, refl, sym, subst}
use mathlib.Core.List.{List}
use lib.ListN.{get_or}
use Rattle.bptc.specs.declared.Rgb.{Rgb}
use Rattle.bptc.specs.Mode.{Mode, IsMode, endpoints}
use Rattle.bptc.specs.Colour.{Rgba, clear, channel, with_alpha, without_alpha}
use Rattle.bptc.specs.Internal.Colour.{black, Below}
use Rattle.bptc.specs.Internal.Shown.{Stored}
use Rattle.bptc.proofs.Modes.{by_mode}
use Rattle.bptc.proofs.Opaque.{end_alpha}

-- endpoints and channels that a mode looks at, within its width
abbrev pub Kept : Mode → List Rgb → Type 0
Kept m ends = (k : ℕ) → k < endpoints m → (j : ℕ) → j < m.channels → channel j (get_or (without_alpha ends) k clear) < 2 ^ m.channel_bits

-- a mode of the calls has four endpoints of three channels
pub of_mode : (m : Mode) → IsMode m → (endpoints m ≡ 4) × (m.channels ≡ 3)
of_mode = by_mode (λ (m : Mode). (endpoints m ≡ 4) × (m.channels ≡ 3)) (refl, refl) (refl, refl)

module _ (m : Mode) (is : IsMode m) (ends : List Rgb) where
  -- endpoints in range are so for the code
  pub stored_rgb : Kept m ends → Stored m ends
  unfolding channel
  stored_rgb kept k h =
      let e : endpoints m ≡ 4 = (of_mode m is).0 in
      let c : m.channels ≡ 3 = (of_mode m is).1 in
      let at : (j : ℕ) → j < 3 → channel j (with_alpha 0 (get_or ends k black)) < 2 ^ m.channel_bits =
      λ j l. subst (λ (x : Rgba). channel j x < 2 ^ m.channel_bits) (end_alpha ends k) (kept k (rw e h) j (rw c l)) in
      record { r = at 0 (omega arith); g = at 1 (omega arith); b = at 2 (omega arith) }

  -- endpoints in range for the code are so
  pub rgb_stored : Stored m ends → Kept m ends
  unfolding channel
  rgb_stored stored k h j l =
      subst (λ (x : Rgba). channel j x < 2 ^ m.channel_bits) (sym (end_alpha ends k))
      (go j (rw (of_mode m is).1 at l) (stored k (rw (of_mode m is).0 at h)))
    where
      go : (j : ℕ) → j < 3 → Below (2 ^ m.channel_bits) (get_or ends k black) → channel j (with_alpha 0 (get_or ends k black)) < 2 ^ m.channel_bits
      go zero l b = b.r
      go (suc zero) l b = b.g
      go (suc (suc zero)) l b = b.b
      go (suc (suc (suc j))) l b = absurd (omega arith)
