-- What the laws of colours and palettes ask of a mode, by one test that antt computes.
use Prim.Native.Nat.{ℕ, suc, ◌-◌, ◌^◌, ◌≤◌, ◌<◌}
use native.Mathlib.Omega.{arith}
use mathlib.Core.Path.{◌≡◌, refl, sym, subst}
use mathlib.Core.Bool.{Bool, true}
use mathlib.Core.List.{List, [], ◌∷◌}
use lib.Dec.{T, eqb, ltb, leb, eqb→eq, ltb→lt, leb→le}
use lib.ListN.{get_or}
use borrow.Author.Tests.{eqb-true}
use Rattle.std.proofs.Common.{inl, inr}
use Rattle.lists.specs.Tests.{and, all}
use Rattle.lists.specs.Rows.{up_from}
use Rattle.bptc.specs.Shown.{shown_by, widen}
use Rattle.lists.proofs.Tests.{pick_elim, and_left, and_right}
use Rattle.lists.proofs.Tables.{tested, all_true, each-true}
use Rattle.bptc.specs.Mode.{Mode, mode1, mode3, IsMode, mode_numbered, weight, largest}

pub record Shades (m : Mode) : Type 0 where
  pub seen : m.channels ≤ 4
  pub narrow : m.own_bits ≤ 2
  -- a stored channel has bits that show a byte
  pub some : 3 ≤ m.channel_bits
  pub most : m.channel_bits ≤ 7
  pub byte : (p e : ℕ) → p < 2 → e < 2 ^ m.channel_bits → shown_by m.channel_bits m.own_bits p e < 256
  -- the weights lie in 64 and are mirrored
  pub light : (i : ℕ) → i ≤ largest m → weight m i ≤ 64
  pub mirror : (i : ℕ) → i ≤ largest m → weight m (largest m - i) ≡ 64 - weight m i

-- of the weight at an index
abbrev light_test : Mode → ℕ → Bool
light_test m i = and (leb (weight m i) 64) (eqb (weight m (largest m - i)) (64 - weight m i))

-- of a stored channel
abbrev byte_test : Mode → ℕ → ℕ → Bool
byte_test m p e = ltb (shown_by m.channel_bits m.own_bits p e) 256

-- of a mode
abbrev tests : Mode → List Bool
tests m =
    leb m.channels 4
    ∷ leb m.own_bits 2
    ∷ leb 3 m.channel_bits
    ∷ leb m.channel_bits 7
    ∷ all (λ (p : ℕ). all (byte_test m p) (up_from 0 (2 ^ m.channel_bits))) (up_from 0 2)
    ∷ all (light_test m) (up_from 0 (suc (largest m)))
    ∷ []

shades_by : (m : Mode) → T (all_true (tests m)) → Shades m
shades_by m t =
    let holds : (i : ℕ) → T (get_or (tests m) i true) = each-true (tests m) t in
    let light : (i : ℕ) → i < suc (largest m) → T (light_test m i) = tested (light_test m) (suc (largest m)) (holds 5) in
    record {
      seen = leb→le _ _ (holds 0);
      narrow = leb→le _ _ (holds 1);
      some = leb→le _ _ (holds 2);
      most = leb→le _ _ (holds 3);
      byte =
          λ p e h l.
          ltb→lt _ _ (tested (byte_test m p) (2 ^ m.channel_bits) (tested (λ (p : ℕ). all (byte_test m p) (up_from 0 (2 ^ m.channel_bits))) 2 (holds 4) p h) e l);
      light = λ i h. leb→le _ _ (and_left (leb (weight m i) 64) _ (light i (omega arith)));
      mirror = λ i h. eqb→eq _ _ (and_right (leb (weight m i) 64) _ (light i (omega arith)));
    }

-- mode 1
pub shades1 : Shades mode1
unfolding largest shown_by widen
shades1 = shades_by mode1 tt

-- mode 3
pub shades3 : Shades mode3
unfolding largest shown_by widen
shades3 = shades_by mode3 tt

pub is_mode1 : IsMode mode1
is_mode1 = inl refl

pub is_mode3 : IsMode mode3
is_mode3 = inr refl

-- what holds of both modes holds of one of them
pub by_mode : (P : Mode → Type 0) → P mode1 → P mode3 → (m : Mode) → IsMode m → P m
by_mode P one three m (inl e) = subst P (sym e) one
by_mode P one three m (inr e) = subst P (sym e) three

-- either mode
pub shades_of : (m : Mode) → IsMode m → Shades m
shades_of = by_mode Shades shades1 shades3

-- a row of eight has room for a mode's colours
pub few_colours : (m : Mode) → IsMode m → largest m < 8
unfolding largest
few_colours = by_mode (λ (m : Mode). largest m < 8) (omega arith) (omega arith)

-- what holds of each mode holds of that of any number
pub each_mode {ℓ} : (P : Mode → Type ℓ) → P mode1 → P mode3 → (n : ℕ) → P (mode_numbered n)
unfolding mode_numbered
each_mode P one three n = pick_elim P (eqb n 1) (λ t. one) (λ t. pick_elim P (eqb n 3) (λ u. three) (λ u. three))

-- which is one of them
pub is_mode : (n : ℕ) → IsMode (mode_numbered n)
is_mode = each_mode IsMode is_mode1 is_mode3

-- and has the number, where it is a mode's
pub mode_of_number : (m : Mode) → IsMode m → mode_numbered m.number ≡ m
unfolding mode_numbered
mode_of_number = by_mode (λ (m : Mode). mode_numbered m.number ≡ m) refl refl

-- of two modes it is the first by its number
pub is_first : (n : ℕ) → n ≡ 1 → mode_numbered n ≡ mode1
unfolding mode_numbered
is_first n e = rw e

-- and else the second
pub not_first : (n : ℕ) → (n ≡ 1 → ⊥) → mode_numbered n ≡ mode3
unfolding mode_numbered
not_first n other = pick_elim (λ (m : Mode). m ≡ mode3) (eqb n 1) (λ t. absurd (other (eqb-true n 1 t))) (λ t. pick_elim (λ (m : Mode). m ≡ mode3) (eqb n 3) (λ u. refl) (λ u. refl))
