-- The fields of a block of two subsets in three channels: as the code lists them they are the chapter's, and written one after the other
-- they make its number.
use Prim.Native.Nat.{ℕ, ◌+◌, ◌*◌, ◌^◌}
use native.Mathlib.Nat.{add_comm}
use native.Mathlib.Omega.{arith}
use mathlib.Core.Path.{◌≡◌, refl, sym, ap, ◌∙◌}
use mathlib.Core.List.{List, [], ◌∷◌, ◌++◌, map, append-nil, append_assoc}
use lib.ListN.{length, get_or, replicate, length-append, length-map}
use Rattle.lists.specs.Rows.{up_from}
use Rattle.lists.specs.Bits.{join}
use Rattle.lists.proofs.Tables.{of_four}
use Rattle.lists.proofs.Rows.{listed}
use Rattle.lists.proofs.Bits.{join-then, join_single}
use Rattle.bptc.specs.declared.Rgb.{Rgb}
use Rattle.bptc.specs.Mode.{Mode, IsMode}
use Rattle.bptc.specs.Colour.{channel, without_alpha}
use Rattle.bptc.specs.Internal.Colour.{black}
use Rattle.bptc.proofs.Modes.{by_mode}
use Rattle.bptc_block.specs.Fields.{stores, channel_values}
use Rattle.bptc_block.specs.Internal.Front.{front_widths, rgb_values, front_values}

-- the widths of what the code writes are the chapter's
pub front_widths_same : (m : Mode) → IsMode m → (us : List ℕ) →
    front_widths m.number m.channel_bits us ≡ (m.number + 1) ∷ (m.partition_bits ∷ (replicate (stores m) m.channel_bits ++ us))
front_widths_same =
    by_mode (λ (m : Mode). (us : List ℕ) → front_widths m.number m.channel_bits us ≡ (m.number + 1) ∷ (m.partition_bits ∷ (replicate (stores m) m.channel_bits ++ us)))
    (λ us. refl) (λ us. refl)

-- so are its channels
pub channels_rgb : (m : Mode) → IsMode m → (ends : List Rgb) → length ends ≡ 4 → channel_values m (without_alpha ends) ≡ rgb_values ends []
unfolding channel_values channel without_alpha
channels_rgb =
    by_mode (λ (m : Mode). (ends : List Rgb) → length ends ≡ 4 → channel_values m (without_alpha ends) ≡ rgb_values ends [])
    (of_four _ (λ (a b c d : Rgb). refl)) (of_four _ (λ (a b c d : Rgb). refl))

rgb-length : (ends : List Rgb) → length ends ≡ 4 → length (rgb_values ends []) ≡ 12
rgb-length ends four = simp (length-append, length-map) (omega (arith, four))

rgb_rest : (ends : List Rgb) (rest : List ℕ) → rgb_values ends [] ++ rest ≡ rgb_values ends rest
rgb_rest ends rest = rw (append-nil, append_assoc, append_assoc)

-- and its values
pub front_values_same : (m : Mode) → IsMode m → (part : ℕ) (ends : List Rgb) (xs : List ℕ) → length ends ≡ 4 →
    front_values m.number part ends xs ≡ (2 ^ m.number) ∷ (part ∷ (channel_values m (without_alpha ends) ++ xs))
front_values_same m known part ends xs four =
    ap (λ (vs : List ℕ). (2 ^ m.number) ∷ (part ∷ vs)) (sym (ap (λ (vs : List ℕ). vs ++ xs) (channels_rgb m known ends four) ∙ rgb_rest ends xs))

-- a channel of each of four endpoints
abbrev pub channel_of : (Rgb → ℕ) → List Rgb → List ℕ
channel_of g ends = map (λ (k : ℕ). g (get_or ends k black)) (up_from 0 4)

-- the channels of four endpoints, written one colour after the other: h after each, and b the place after it
module _ (bits h₀ b₀ : ℕ) (ends : List Rgb) (four : length ends ≡ 4) where
  -- their number in the end
  pub channel_steps : (h₁ b₁ : ℕ) {h₂ h₃ b₂ : ℕ} → h₁ ≡ h₀ + join (replicate 4 bits) (channel_of (λ c. c.r) ends) * 2 ^ b₀ → b₁ ≡ b₀ + 4 * bits →
      h₂ ≡ h₁ + join (replicate 4 bits) (channel_of (λ c. c.g) ends) * 2 ^ b₁ → b₂ ≡ b₁ + 4 * bits →
      h₃ ≡ h₂ + join (replicate 4 bits) (channel_of (λ c. c.b) ends) * 2 ^ b₂ → h₃ ≡ h₀ + join (replicate 12 bits) (rgb_values ends []) * 2 ^ b₀
  channel_steps h₁ b₁ {h₂} {h₃} {b₂} e₁ p₁ e₂ p₂ e₃ =
      let r₄ : List ℕ = replicate 4 bits in
      let greens : List ℕ = channel_of (λ c. c.g) ends in
      let blues : List ℕ = channel_of (λ c. c.b) ends in
      let later : h₃ ≡ h₁ + join (r₄ ++ r₄) (greens ++ blues) * 2 ^ b₁ = e₃ ∙ rw e₂ (join-then r₄ greens r₄ blues h₁ b₁ b₂ refl (omega (arith, p₂))) in
      let all : h₃ ≡ h₀ + join (r₄ ++ (r₄ ++ r₄)) (channel_of (λ c. c.r) ends ++ (greens ++ blues)) * 2 ^ b₀ =
      later ∙ rw e₁ (join-then r₄ (channel_of (λ c. c.r) ends) (r₄ ++ r₄) (greens ++ blues) h₀ b₀ b₁ refl (omega (arith, p₁))) in
      all
      ∙ ap (λ (es : List Rgb). h₀ + join (replicate 12 bits) (rgb_values es []) * 2 ^ b₀) (listed black ends 4 four)

-- the fields of a block, written one after the other: h after each of them, and b the place after it
module _ (number bits bs w part p n : ℕ) (ends : List Rgb) (four : length ends ≡ 4) where
  -- the p-bits and the indexes
  abbrev tail : ℕ
  tail = join (bs ∷ (w ∷ [])) (p ∷ (n ∷ []))

  -- these, and the channels before them
  abbrev stored : ℕ
  stored = join (replicate 12 bits ++ (bs ∷ (w ∷ []))) (rgb_values ends [] ++ (p ∷ (n ∷ [])))

  tail_steps : (h₃ b₃ : ℕ) {h₄ h₅ b₄ : ℕ} → h₄ ≡ h₃ + p * 2 ^ b₃ → b₄ ≡ b₃ + bs → h₅ ≡ h₄ + n * 2 ^ b₄ → h₅ ≡ h₃ + tail * 2 ^ b₃
  tail_steps h₃ b₃ {h₄} {h₅} {b₄} e₄ p₄ e₅ =
      e₅ ∙ rw e₄ (rw (join_single bs p, join_single w n) at (join-then (bs ∷ []) (p ∷ []) (w ∷ []) (n ∷ []) h₃ b₃ b₄ refl (omega (arith, p₄))))

  stored_steps : (h₂ b₂ : ℕ) {h₃ h₅ b₃ : ℕ} → h₃ ≡ h₂ + join (replicate 12 bits) (rgb_values ends []) * 2 ^ b₂ → b₃ ≡ b₂ + 12 * bits → h₅ ≡ h₃ + tail * 2 ^ b₃ → h₅ ≡ h₂ + stored * 2 ^ b₂
  stored_steps h₂ b₂ {h₃} {h₅} {b₃} e₃ p₃ e = e ∙ rw e₃ (join-then (replicate 12 bits) (rgb_values ends []) (bs ∷ (w ∷ [])) (p ∷ (n ∷ [])) h₂ b₂ b₃ (rgb-length ends four) (omega (arith, p₃)))

  -- their number in the end
  pub front_steps : {h₁ h₂ h₃ h₄ h₅ b₁ b₂ b₃ b₄ : ℕ} → h₁ ≡ 2 ^ number → b₁ ≡ number + 1 → h₂ ≡ h₁ + part * 2 ^ b₁ → b₂ ≡ b₁ + 6 →
      h₃ ≡ h₂ + join (replicate 12 bits) (rgb_values ends []) * 2 ^ b₂ → b₃ ≡ b₂ + 12 * bits → h₄ ≡ h₃ + p * 2 ^ b₃ → b₄ ≡ b₃ + bs → h₅ ≡ h₄ + n * 2 ^ b₄ →
      h₅ ≡ join (front_widths number bits (bs ∷ (w ∷ []))) (front_values number part ends (p ∷ (n ∷ [])))
  unfolding join
  front_steps {h₁} {h₂} {h₃} {h₄} {h₅} {b₁} {b₂} {b₃} {b₄} e₁ p₁ e₂ p₂ e₃ p₃ e₄ p₄ e₅ =
      let second : h₁ + part * 2 ^ b₁ + stored * 2 ^ b₂ ≡ h₁ + (stored * 2 ^ 6 + part) * 2 ^ b₁ =
      rw (join_single 6 part) at (join-then (6 ∷ []) (part ∷ []) (replicate 12 bits ++ (bs ∷ (w ∷ []))) (rgb_values ends [] ++ (p ∷ (n ∷ []))) h₁ b₁ b₂ refl (omega (arith, p₂))) in
      stored_steps h₂ b₂ e₃ p₃ (tail_steps h₃ b₃ e₄ p₄ e₅)
      ∙ ap (λ (h : ℕ). h + stored * 2 ^ b₂) e₂
      ∙ second
      ∙ rw (e₁, p₁) (add_comm (2 ^ number) ((stored * 2 ^ 6 + part) * 2 ^ (number + 1)))
      ∙ ap (λ (vs : List ℕ). (join (replicate 12 bits ++ (bs ∷ (w ∷ []))) vs * 2 ^ 6 + part) * 2 ^ (number + 1) + 2 ^ number) (rgb_rest ends (p ∷ (n ∷ [])))
