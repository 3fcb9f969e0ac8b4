-- A number without any bit of a mask has small fields.
use Prim.Native.Nat.{ℕ, suc, ◌+◌, ◌-◌, ◌*◌, ◌/◌, ◌%◌, ◌^◌, ◌≤◌, ◌<◌}
use native.Mathlib.Nat.{zero-mul, add_comm, mod-lt, mul-le-mul_left, mul-le-mul_right, le-div_iff_mul-le, div-eq_of_lt}
use native.Mathlib.Omega.{arith}
use mathlib.Core.Path.{◌≡◌, refl, sym, ap, ap₂, subst, ◌∙◌}
use mathlib.Core.Bool.{Bool, true, false}
use mathlib.Core.List.{List, [], ◌∷◌, map}
use lib.Bits.{bit_and, bit_or, and_le_r, and_zero_r, or_zero_l, or_add_and, and_block, and_high}
use lib.Dec.{eqb, leb, ltb}
use lib.ListN.{get_or, length, length-map, replicate}
use lib.Pow.{pow_pos, pow-sub-lt, lt_of_le_ones, shr_lt, shr_mod}
use lib.Pow as P
use borrow.Author.Tests.{ne_eqb, eqb-true, eqb-false, leb-true, leb-false, le-leb, lt-ltb}
use Rattle.lists.specs.Tests.{pick, and, all}
use Rattle.lists.specs.Rows.{sum}
use Rattle.lists.specs.Bits.{split, join}
use Rattle.lists.proofs.Tests.{and-true, and_last}
use Rattle.bptc.specs.Mode.{Mode, IsMode, mode_numbered, p_bits, largest}
use Rattle.bptc.proofs.Modes.{by_mode, is_mode}
use Rattle.bptc_block.specs.declared.PBits.TheVariants.{Free, Fixed}
use Rattle.bptc_block.specs.Refusal.{unless, check_rgba, check_candidate, check_indices}
use Rattle.bptc_block.specs.Internal.RgbChecks.{within, in_range}
use Rattle.bptc_block.specs.PackCall.{fixed_at}
use Rattle.bptc_block.proofs.Modes.{lawful}
use Rattle.bptc_block.proofs.Refusals.{Known}
use Rattle.bptc_block.proofs.RgbChecks.{indices_same}
use Rattle.bptc_block.proofs.Answers.{known_stored}
use Rattle.bits.proofs.FewBits.{few_bits}
use Rattle.bc7_c.specs.Numbers.{end_in, indices_of, packed_at, candidate_at}
use Rattle.bc7_c.specs.Masks.{above, end_widths, over, check_masked}

-- a sum of two parts is 0 where both are
sum-zero : (x y w : ℕ) → eqb (x * 2 ^ w + y) 0 ≡ and (eqb y 0) (eqb x 0)
sum-zero x y w = go (eqb y 0) refl (eqb x 0) refl
  where
    go : (t : Bool) → eqb y 0 ≡ t → (u : Bool) → eqb x 0 ≡ u → eqb (x * 2 ^ w + y) 0 ≡ and t u
    go true e true f = rw (eqb-true x 0 f, eqb-true y 0 e, zero-mul)
    go true e false f = ne_eqb _ 0 (λ (z : x * 2 ^ w + y ≡ 0). eqb-false x 0 f (omega (arith, mul-le-mul_left x (pow_pos w))))
    go false e u f = ne_eqb _ 0 (λ (z : x * 2 ^ w + y ≡ 0). eqb-false y 0 e (omega arith))

-- and so is what either has
or-zero : (x y : ℕ) → eqb (bit_or x y) 0 ≡ and (eqb x 0) (eqb y 0)
or-zero x y = go (eqb x 0) refl
  where
    go : (t : Bool) → eqb x 0 ≡ t → eqb (bit_or x y) 0 ≡ and t (eqb y 0)
    go true e = rw (eqb-true x 0 e, or_zero_l y)
    go false e = ne_eqb _ 0 (λ (z : bit_or x y ≡ 0). eqb-false x 0 e (omega (arith, or_add_and x y, and_le_r x y)))

-- one field
field_masked : (w k v : ℕ) → k ≤ w → v < 2 ^ w → eqb (bit_and v (2 ^ w - 2 ^ k)) 0 ≡ leb v (2 ^ k - 1)
field_masked w k v l h = rw kept (go (leb v (2 ^ k - 1)) refl)
  where
    kept : bit_and v (2 ^ w - 2 ^ k) ≡ v / 2 ^ k * 2 ^ k
    kept =
        let e : w - k + k ≡ w = omega arith in
        subst (λ (n : ℕ). bit_and v (2 ^ n - 2 ^ k) ≡ v / 2 ^ k * 2 ^ k) e
        (and_high v (w - k) k ∙ ap (λ (n : ℕ). n * 2 ^ k) (shr_mod (w - k) k (subst (λ (n : ℕ). v < 2 ^ n) (sym e) h)))

    go : (t : Bool) → leb v (2 ^ k - 1) ≡ t → eqb (v / 2 ^ k * 2 ^ k) 0 ≡ t
    go true e = rw (div-eq_of_lt (lt_of_le_ones k (leb-true _ _ e)), zero-mul)
    go false e =
        let some : 1 ≤ v / 2 ^ k = (le-div_iff_mul-le (pow_pos k)).1 (omega (arith, leb-false v (2 ^ k - 1) e, pow_pos k)) in
        ne_eqb _ 0 (λ (z : v / 2 ^ k * 2 ^ k ≡ 0). omega (arith, mul-le-mul_right (2 ^ k) some, pow_pos k))

-- every field
masked : (ws : List ℕ) (k n : ℕ) → all (leb k) ws ≡ true → n < 2 ^ sum ws → eqb (bit_and n (above ws k)) 0 ≡ all (λ (v : ℕ). leb v (2 ^ k - 1)) (split ws n)
unfolding above join split
masked [] k n wide h = rw and_zero_r
masked (w ∷ ws) k n wide h =
    let (own, rest) = and-true (leb k w) _ wide in
    let low : n % 2 ^ w < 2 ^ w = mod-lt n (pow_pos w) in
    let high : n / 2 ^ w < 2 ^ sum ws = shr_lt (sum ws) w (subst (λ (m : ℕ). n < 2 ^ m) (add_comm w (sum ws)) h) in
    ap (λ (m : ℕ). eqb (bit_and m (above ws k * 2 ^ w + (2 ^ w - 2 ^ k))) 0) (sym (P.split n w))
    ∙ ap (λ (m : ℕ). eqb m 0) (and_block w (n / 2 ^ w) (above ws k) (n % 2 ^ w) (2 ^ w - 2 ^ k) low (pow-sub-lt w (pow_pos k)))
    ∙ sum-zero _ _ w
    ∙ ap₂ and (field_masked w k (n % 2 ^ w) (leb-true k w own) low) (masked ws k (n / 2 ^ w) rest high)

-- an endpoint
end_masked : (k e : ℕ) → k ≤ 8 → e < 2 ^ 32 → eqb (bit_and e (above end_widths k)) 0 ≡ within (2 ^ k - 1) (end_in e)
unfolding end_in split
end_masked k e l h =
    let wide : k ≤ 16 = omega arith in
    let blue : e / 256 / 256 % 65536 ≡ e / 65536 = omega arith in
    masked end_widths k e (rw (le-leb k 8 l, le-leb k 16 wide)) h
    ∙ ap (λ t. and (leb (e % 256) (2 ^ k - 1)) (and (leb (e / 256 % 256) (2 ^ k - 1)) t)) (and_last _ ∙ ap (λ (v : ℕ). leb v (2 ^ k - 1)) blue)

-- several
ends_masked : (k : ℕ) (ends : List ℕ) → k ≤ 8 → ((i : ℕ) → get_or ends i 0 < 2 ^ 32) → eqb (over (above end_widths k) ends) 0 ≡ in_range (2 ^ k - 1) (map end_in ends)
ends_masked k [] l h = refl
ends_masked k (e ∷ []) l h = end_masked k e l (h 0) ∙ sym (and_last (within (2 ^ k - 1) (end_in e)))
ends_masked k (e ∷ (f ∷ es)) l h = or-zero (bit_and e (above end_widths k)) (over (above end_widths k) (f ∷ es)) ∙ ap₂ and (end_masked k e l (h 0)) (ends_masked k (f ∷ es) l (λ i. h (suc i)))

-- sixteen indices
indices_masked : (k n : ℕ) → k ≤ 4 → n < 2 ^ 64 → eqb (bit_and n (above (replicate 16 4) k)) 0 ≡ all (λ (i : ℕ). leb i (2 ^ k - 1)) (indices_of n)
indices_masked k n l h = masked (replicate 16 4) k n (rw (le-leb k 4 l)) h

-- checks 3 to 7, by the masks of a mode
pub masked_checked : (mode partition : ℕ) (ends : List ℕ) (p indices channels top index : ℕ) → Known mode → length ends ≡ 4 →
    ((i : ℕ) → get_or ends i 0 < 2 ^ 32) → indices < 2 ^ 64 → channels ≡ above end_widths (mode_numbered mode).channel_bits →
    top ≡ 2 ^ p_bits (mode_numbered mode) - 1 → index ≡ above (replicate 16 4) (mode_numbered mode).index_bits →
    check_masked channels top index partition ends p indices
    ≡ check_candidate (fixed_at mode (packed_at partition ends p indices)) (check_indices mode (indices_of indices) 0)
unfolding largest
masked_checked mode partition ends p indices channels top index known four small h c t i =
    let m : Mode = mode_numbered mode in
    let bits : m.channel_bits ≤ 8 = omega (arith, (lawful mode).shades.most) in
    rw (c, t, i, ends_masked m.channel_bits ends bits small, indices_masked m.index_bits indices (omega (arith, few_bits m (is_mode mode))) h)
    (known_stored mode known partition (map end_in ends) (Fixed p) (unless (all (λ (i : ℕ). leb i (2 ^ m.index_bits - 1)) (indices_of indices)) 7 0) (length-map ends end_in ∙ four)
    ∙ ap (λ (t : Bool). check_candidate (fixed_at mode (packed_at partition ends p indices)) (unless t 7 0)) (indices_same m (is_mode mode) (indices_of indices)))

-- sixteen indices 0 pass
zeros_pass : (mode : ℕ) → check_indices mode (indices_of 0) 0 ≡ 0
unfolding split
zeros_pass mode = rw (lt-ltb 0 (2 ^ (mode_numbered mode).index_bits) (pow_pos (mode_numbered mode).index_bits))

-- checks 3 to 6 of a candidate: free p-bits pass as 0 does
pub unindexed : (mode partition : ℕ) (ends : List ℕ) (p free : ℕ) →
    check_candidate (fixed_at mode (packed_at partition ends (pick (eqb free 0) p 0) 0)) (check_indices mode (indices_of 0) 0)
    ≡ check_candidate (candidate_at mode partition ends p free) 0
unfolding check_rgba
unindexed mode partition ends p free = rw (zeros_pass mode) (go (eqb free 0))
  where
    go : (t : Bool) → check_candidate (fixed_at mode (packed_at partition ends (pick t p 0) 0)) 0
        ≡ check_candidate (record { mode = mode; partition = partition; ends = map end_in ends; p = pick t (Fixed p) Free }) 0
    go true = refl
    go false = rw (lt-ltb 0 (2 ^ p_bits (mode_numbered mode)) (pow_pos (p_bits (mode_numbered mode))))

-- the bits that no channel of a mode has
pub channel_mask : (m : Mode) → IsMode m → 4294967295 - (2 ^ m.channel_bits - 1) * 65793 ≡ above end_widths m.channel_bits
unfolding above join
channel_mask = by_mode (λ (m : Mode). 4294967295 - (2 ^ m.channel_bits - 1) * 65793 ≡ above end_widths m.channel_bits) refl refl

-- and no index
pub index-mask : (m : Mode) → IsMode m → 18446744073709551615 - largest m * 1229782938247303441 ≡ above (replicate 16 4) m.index_bits
unfolding above join largest
index-mask = by_mode (λ (m : Mode). 18446744073709551615 - largest m * 1229782938247303441 ≡ above (replicate 16 4) m.index_bits) refl refl
