-- SharedPBit and UniquePBits: a state as the own p-bits of a subset.
use Prim.Native.Nat.{ℕ, zero, suc, ◌+◌, ◌*◌, ◌/◌, ◌%◌, ◌^◌, ◌<◌}
use native.Mathlib.Nat.{mul-one}
use native.Mathlib.Omega.{arith}
use mathlib.Core.Path.{◌≡◌, refl, sym, ap, ap₂, ◌∙◌}
use mathlib.Core.Bool.{Bool}
use mathlib.Core.List.{List, [], ◌∷◌, ◌++◌, map, map-append}
use lib.Bits.{and_mask}
use lib.ListN.{length, replicate, length-map}
use lib.Pow.{shr-shr}
use Rattle.lists.specs.Rows.{up_from}
use Rattle.lists.specs.Parts.{joined}
use Rattle.lists.specs.Digits.{bit}
use Rattle.lists.specs.Bits.{join}
use Rattle.lists.proofs.Rows.{length-up_from, each-suc}
use Rattle.lists.proofs.Parts.{joined_length}
use Rattle.lists.proofs.Tables.{two}
use Rattle.bptc.specs.declared.Rgb.{Rgb}
use Rattle.bptc.specs.Mode.{Mode, mode1, mode3, IsMode}
use Rattle.bptc.specs.Colour.{with_alpha}
use Rattle.bptc.specs.Shown.{own, joined_own, own_bit, end_by, end_shown}
use Rattle.bptc.specs.Internal.Colour.{Below}
use Rattle.bptc.specs.Internal.Shown.{shown}
use Rattle.bptc.proofs.Modes.{is_mode1, is_mode3}
use Rattle.bptc.proofs.Opaque.{opaque, end_opaque}
use Rattle.bptc_block.specs.Finish.{other_bits}
use Rattle.bptc_rust.specs.Words.{differs}
use Rattle.bptc_rust.specs.Colour.{as_u8, p_promote}
use Rattle.bptc_rust.specs.PBits.{p_bit_at}
use Rattle.bptc_rust.specs.PBitHandling.{PBitHandling, SharedPBit, UniquePBits}
use Rattle.bptc_rust.specs.Encode.{shared, unique}
use Rattle.bptc_rust.proofs.Promotion.{Promotes, promotes1, promotes3}
use Rattle.bptc_rust.proofs.Digits.{digits, Small, digits_small, digits_append, digits_snoc}
use Rattle.bptc_rust.proofs.Swaps.{p_number, bit_small}

-- what a handling of p-bits has to do with a subset's own, where `list` are a state's bits
pub record Handles {State : Type 0} (m : Mode) (p-bit : PBitHandling State) (fixed : ℕ → ℕ → State)
    (list : State → List Bool) : Type 0 where
  -- as many as a subset has
  pub long : (p : State) → length (list p) ≡ m.own_bits
  -- ALL is the order of the trial
  pub first : p_number (list p-bit.first) ≡ 0
  pub others : map (λ (p : State). p_number (list p)) p-bit.others ≡ other_bits m.own_bits
  -- promote_rgb gives the colours that two endpoints show
  pub low : (p : State) (c d : Rgb) → Below (2 ^ m.channel_bits) c →
      end_shown m (p_number (list p)) 0 (with_alpha 0 c) ≡ opaque (p-bit.promote_rgb p m.channel_bits c d).0
  pub high : (p : State) (c d : Rgb) → Below (2 ^ m.channel_bits) d →
      end_shown m (p_number (list p)) 1 (with_alpha 0 d) ≡ opaque (p-bit.promote_rgb p m.channel_bits c d).1
  -- fixed p-bits, taken apart, are those of their subset
  pub own_bits : (s p : ℕ) → p_number (list (fixed s p)) ≡ own m p s

-- the state of a subset in mode 1, as a list
abbrev pub list1 : Bool → List Bool
list1 b = b ∷ []

-- in mode 3
abbrev pub list3 : Bool × Bool → List Bool
list3 b = b.0 ∷ (b.1 ∷ [])

bits_small : (ps : List Bool) → Small 1 (map as_u8 ps)
bits_small [] i = omega arith
bits_small (b ∷ ps) zero = bit_small b
bits_small (b ∷ ps) (suc i) = bits_small ps i

-- they have no more bits
pub number_small : (ps : List Bool) → p_number ps < 2 ^ length ps
number_small ps = rw (length-map, mul-one) at (digits_small 1 (map as_u8 ps) (bits_small ps))

number_append : (ps qs : List Bool) → p_number (ps ++ qs) ≡ p_number qs * 2 ^ length ps + p_number ps
number_append ps qs =
    ap (digits 1) (map-append as_u8 ps qs)
    ∙ digits_append 1 (map as_u8 ps) (map as_u8 qs)
    ∙ ap (λ (n : ℕ). p_number qs * 2 ^ n + p_number ps) (mul-one (length (map as_u8 ps)) ∙ length-map ps as_u8)

-- a state for each subset, with so many bits
module _ (w : ℕ) (lists : ℕ → List Bool) (long : (s : ℕ) → length (lists s) ≡ w) where
  joined_digits : (n : ℕ) → digits w (map (λ (s : ℕ). p_number (lists s)) (up_from 0 n)) ≡ p_number (joined lists n)
  unfolding joined digits join
  joined_digits zero = refl
  joined_digits (suc n) =
      let ns : List ℕ = map (λ (s : ℕ). p_number (lists s)) (up_from 0 n) in
      let size : length ns ≡ n = length-map (up_from 0 n) (λ (s : ℕ). p_number (lists s)) ∙ length-up_from n 0 in
      ap (digits w) (each-suc (λ (s : ℕ). p_number (lists s)) n)
      ∙ digits_snoc w ns (p_number (lists n))
      ∙ ap₂ (λ (k x : ℕ). p_number (lists n) * 2 ^ k + x) (ap (λ (k : ℕ). k * w) size ∙ sym (joined_length w lists n (λ s h. long s)))
      (joined_digits n)
      ∙ sym (number_append (joined lists n) (lists n))

-- the states of all subsets make the number that holds their own p-bits
pub joined_number : (m : Mode) (lists : ℕ → List Bool) → ((s : ℕ) → length (lists s) ≡ m.own_bits) →
    joined_own m (λ (s : ℕ). p_number (lists s)) ≡ p_number (joined lists m.subsets)
unfolding joined_own digits
joined_number m lists long =
    let size : length (map (λ (s : ℕ). p_number (lists s)) (up_from 0 m.subsets)) ≡ m.subsets =
    length-map (up_from 0 m.subsets) (λ (s : ℕ). p_number (lists s)) ∙ length-up_from m.subsets 0 in
    ap (λ (n : ℕ). join (replicate n m.own_bits) (map (λ (s : ℕ). p_number (lists s)) (up_from 0 m.subsets))) (sym size)
    ∙ joined_digits m.own_bits lists long m.subsets

bit_of : (x : ℕ) → x < 2 → as_u8 (differs x 0) ≡ x
bit_of = two _ refl refl

fixed-bit : (p k : ℕ) → as_u8 (p_bit_at p k) ≡ bit p k
fixed-bit p k = ap (λ (x : ℕ). as_u8 (differs x 0)) (and_mask (p / 2 ^ k) 1) ∙ bit_of (bit p k) (omega arith)

-- the p-bit of an endpoint, and the colour by it
promoted : (m : Mode) → IsMode m → Promotes m → (p : ℕ) (b : Bool) (c : Rgb) → p ≡ as_u8 b → Below (2 ^ m.channel_bits) c →
    end_by m p (with_alpha 0 c) ≡ opaque (p_promote m.channel_bits c b)
unfolding shown
promoted m is promotes p b c e h = ap (λ (p : ℕ). end_by m p (with_alpha 0 c)) e ∙ end_opaque m is (as_u8 b) c
    ∙ ap opaque (sym (promotes c b h))

-- two bits by themselves
low_bit : (b : Bool × Bool) → own_bit 2 (p_number (list3 b)) 0 ≡ as_u8 b.0
unfolding own_bit digits join
low_bit b = omega (arith, bit_small b.0, bit_small b.1)

high_bit : (b : Bool × Bool) → own_bit 2 (p_number (list3 b)) 1 ≡ as_u8 b.1
unfolding own_bit digits join
high_bit b = omega (arith, bit_small b.0, bit_small b.1)

one_bit : (b : Bool) → p_number (list1 b) ≡ as_u8 b
unfolding digits join
one_bit b = omega arith

-- SharedPBit in mode 1
pub handles1 : Handles mode1 SharedPBit shared list1
unfolding other_bits own_bit own digits join
handles1 =
    record {
      long = λ p. refl;
      first = refl;
      others = refl;
      low = λ p c d h. promoted mode1 is_mode1 promotes1 _ p c (one_bit p) h;
      high = λ p c d h. promoted mode1 is_mode1 promotes1 _ p d (one_bit p) h;
      own_bits = λ s p. one_bit (shared s p) ∙ fixed-bit p s ∙ ap (bit p) (sym (mul-one s));
    }

-- UniquePBits in mode 3
pub handles3 : Handles mode3 UniquePBits unique list3
unfolding other_bits own_bit own digits join
handles3 =
    record {
      long = λ p. refl;
      first = refl;
      others = refl;
      low = λ p c d h. promoted mode3 is_mode3 promotes3 _ p.0 c (low_bit p) h;
      high = λ p c d h. promoted mode3 is_mode3 promotes3 _ p.1 d (high_bit p) h;
      own_bits = λ s p.
          let twice : 2 * s ≡ s * 2 = omega arith in
          let x : ℕ = p / 2 ^ (2 * s) in
          let a : as_u8 (p_bit_at p (2 * s)) ≡ x % 2 = fixed-bit p (2 * s) in
          let b : as_u8 (p_bit_at p (2 * s + 1)) ≡ x / 2 % 2 = fixed-bit p (2 * s + 1)
          ∙ ap (λ (y : ℕ). y % 2) (sym (shr-shr p (2 * s) 1)) in
          let whole : p_number (list3 (unique s p)) ≡ x % 4 = omega (arith, a, b) in
          whole ∙ ap (λ (n : ℕ). p / 2 ^ n % 4) twice;
    }
