-- The code's checks of three channels are the definitions'.
use Prim.Native.Nat.{ℕ, zero, suc, ◌-◌, ◌^◌, ◌<◌}
use native.Mathlib.Omega.{arith}
use mathlib.Core.Path.{◌≡◌, refl, sym, ap, ap₂, ◌∙◌}
use mathlib.Core.Bool.{Bool, true, false}
use mathlib.Core.List.{List, [], ◌∷◌}
use lib.Dec.{leb, ltb}
use lib.ListN.{length, get_or}
use lib.Pow.{pow_pos, le_ones, lt_of_le_ones}
use borrow.Author.Tests.{leb-true, le-leb, ltb-true, lt-ltb}
use Rattle.lists.specs.Tests.{and, all}
use Rattle.lists.proofs.Tests.{and-true}
use Rattle.bptc.specs.declared.Rgb.{Rgb}
use Rattle.bptc.specs.Mode.{Mode, IsMode, p_bits, largest}
use Rattle.bptc.specs.Colour.{without_alpha}
use Rattle.bptc.specs.Internal.Colour.{black, Below}
use Rattle.bptc.proofs.Modes.{by_mode}
use Rattle.bptc.proofs.ColourBounds.{below-black}
use Rattle.bptc_block.specs.declared.PBits.{PBits}
use Rattle.bptc_block.specs.declared.PBits.TheVariants.{Free, Fixed}
use Rattle.bptc_block.specs.Fields.{channel_values}
use Rattle.bptc_block.specs.Refusal.{unless, below, p_below}
use Rattle.bptc_block.specs.Internal.RgbChecks.{within, in_range, p_in_range, check_stored}
use Rattle.bptc_block.proofs.Modes.{lawful_of}
use Rattle.bptc_block.proofs.Refusals.{channels_in, in_channels}
use Rattle.bptc_block.proofs.Stored.{stored_rgb, rgb_stored}

-- tests that say the same are the same
same_test : (t u : Bool) → (t ≡ true → u ≡ true) → (u ≡ true → t ≡ true) → t ≡ u
same_test true u f g = sym (f refl)
same_test false true f g = g refl
same_test false false f g = refl

-- a limit and the greatest number below it
leb-ltb : (w x : ℕ) → leb x (2 ^ w - 1) ≡ ltb x (2 ^ w)
leb-ltb w x = same_test _ _ (λ t. lt-ltb x (2 ^ w) (lt_of_le_ones w (leb-true x _ t))) (λ t. le-leb x _ (le_ones w (ltb-true x (2 ^ w) t)))

-- what the test of a channel says
channel : (w : ℕ) {x : ℕ} → leb x (2 ^ w - 1) ≡ true → x < 2 ^ w
channel w t = lt_of_le_ones w (leb-true _ _ t)

-- what the test of the channels of endpoints says
pub in_range_lem : (w : ℕ) (ends : List Rgb) → in_range (2 ^ w - 1) ends ≡ true → (k : ℕ) → Below (2 ^ w) (get_or ends k black)
in_range_lem w [] e k = below-black (2 ^ w) (pow_pos w)
in_range_lem w (c ∷ cs) e zero =
    let (r, e₁) = and-true _ _ (and-true (within (2 ^ w - 1) c) _ e).0 in
    let (g, b) = and-true _ _ e₁ in
    record { r = channel w r; g = channel w g; b = channel w b }
in_range_lem w (c ∷ cs) e (suc k) = in_range_lem w cs (and-true (within (2 ^ w - 1) c) _ e).1 k

-- the test holds where every channel is in range
pub range_in : (w : ℕ) (ends : List Rgb) → ((k : ℕ) → k < length ends → Below (2 ^ w) (get_or ends k black)) → in_range (2 ^ w - 1) ends ≡ true
range_in w [] h = refl
range_in w (c ∷ cs) h =
    let b : Below (2 ^ w) c = h 0 (omega arith) in
    rw (le-leb _ _ (le_ones w b.r), le-leb _ _ (le_ones w b.g), le-leb _ _ (le_ones w b.b))
    (range_in w cs (λ k l. h (suc k) (omega arith)))

-- fixed p-bits, by the greatest number and by the limit
p_same : (w : ℕ) (ps : PBits) → p_in_range (2 ^ w - 1) ps ≡ p_below (2 ^ w) ps
p_same w Free = refl
p_same w (Fixed p) = leb-ltb w p

-- each mode has 64 partitions
six_bits : (m : Mode) → IsMode m → m.partition_bits ≡ 6
six_bits = by_mode (λ (m : Mode). m.partition_bits ≡ 6) refl refl

module _ (m : Mode) (is : IsMode m) where
  -- the checks of what a mode stores, by the greatest numbers and by the limits
  pub stored_same : (part : ℕ) (ends : List Rgb) (ps : PBits) (rest : ℕ) → length ends ≡ 4 →
      check_stored (2 ^ m.channel_bits - 1) (2 ^ p_bits m - 1) part ends ps rest
      ≡ unless (ltb part (2 ^ m.partition_bits)) 4 (unless (below (2 ^ m.channel_bits) (channel_values m (without_alpha ends))) 5 (unless (p_below (2 ^ p_bits m) ps) 6 rest))
  stored_same part ends ps rest four =
      ap₂ (λ (t u : Bool). unless t 4 (unless u 5 (unless (p_in_range (2 ^ p_bits m - 1) ps) 6 rest)))
      (leb-ltb 6 part ∙ ap (λ (w : ℕ). ltb part (2 ^ w)) (sym (six_bits m is)))
      (same_test _ _
      (λ t. in_channels m (lawful_of m is) (without_alpha ends) (rgb_stored m is ends (λ k h. in_range_lem m.channel_bits ends t k)))
      (λ t. range_in m.channel_bits ends (λ k h. stored_rgb m is ends (channels_in m (lawful_of m is) (without_alpha ends) t) k (omega arith))))
      ∙ ap (λ (t : Bool). unless (ltb part (2 ^ m.partition_bits)) 4 (unless (below (2 ^ m.channel_bits) (channel_values m (without_alpha ends))) 5 (unless t 6 rest))) (p_same (p_bits m) ps)

  -- the check of indices, by the largest and by the limit
  pub indices_same : (is : List ℕ) → all (λ (i : ℕ). leb i (largest m)) is ≡ below (2 ^ m.index_bits) is
  unfolding largest
  indices_same [] = refl
  indices_same (x ∷ xs) = ap₂ and (leb-ltb m.index_bits x) (indices_same xs)
