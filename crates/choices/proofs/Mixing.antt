-- Digits of one number where a mask's are set, and of another elsewhere.
use Prim.Native.Nat.{ℕ, zero, suc, ◌+◌, ◌-◌, ◌*◌, ◌^◌, ◌≤◌, ◌<◌}
use native.Mathlib.Nat.{mod-eq_of_lt}
use native.Mathlib.Omega.{arith}
use mathlib.Core.Path.{◌≡◌, refl, ap, ap₂, ◌∙◌}
use mathlib.Core.Bool.{Bool, true, false}
use lib.Bits.{bit_and, bit_xor, and_block, xor_block, xor_lt, and_lt, and_mask, and_zero_r, xor_zero_r}
use lib.Dec.{eqb, eqb→eq}
use lib.Pow.{pow_pos}
use Rattle.lists.specs.Tests.{pick, all}
use Rattle.lists.specs.Rows.{up_from}
use Rattle.lists.proofs.Tables.{tested}
use Rattle.lists.specs.Bits.{join}
use Rattle.closest.specs.Pick.{mixed}
use Rattle.closest.proofs.Joining.{joined_from}

-- taken out and put in again
twice : (x y : ℕ) → x < 8 → y < 8 → bit_xor x (bit_xor x y) ≡ y
twice x y h k =
    eqb→eq _ _ (tested (λ (y : ℕ). eqb (bit_xor x (bit_xor x y)) y) 8 (tested (λ (x : ℕ). all (λ (y : ℕ). eqb (bit_xor x (bit_xor x y)) y) (up_from 0 8)) 8 tt x h) y k)

-- one digit
digit : (w x y : ℕ) (t : Bool) → 2 ^ w ≤ 8 → x < 2 ^ w → y < 2 ^ w → mixed x y (pick t (2 ^ w - 1) 0) ≡ pick t y x
digit w x y true l h k = rw (and_mask (bit_xor x y) w, mod-eq_of_lt (xor_lt w x y h k)) (twice x y (omega arith) (omega arith))
digit w x y false l h k = rw (and_zero_r (bit_xor x y)) (xor_zero_r x)

-- k digits from n on
pub mixed_digits : (w : ℕ) (f g : ℕ → ℕ) (t : ℕ → Bool) → 2 ^ w ≤ 8 → ((i : ℕ) → f i < 2 ^ w) → ((i : ℕ) → g i < 2 ^ w) → (n k : ℕ) →
    mixed (joined_from w f n k) (joined_from w g n k) (joined_from w (λ (i : ℕ). pick (t i) (2 ^ w - 1) 0) n k) ≡ joined_from w (λ (i : ℕ). pick (t i) (g i) (f i)) n k
unfolding join
mixed_digits w f g t l hf hg n zero = refl
mixed_digits w f g t l hf hg n (suc k) =
    let F : ℕ = joined_from w f (suc n) k in
    let G : ℕ = joined_from w g (suc n) k in
    let M : ℕ = joined_from w (λ (i : ℕ). pick (t i) (2 ^ w - 1) 0) (suc n) k in
    let m : ℕ = pick (t n) (2 ^ w - 1) 0 in
    let small : m < 2 ^ w = top (t n) in
    let x : bit_xor (F * 2 ^ w + f n) (G * 2 ^ w + g n) ≡ bit_xor F G * 2 ^ w + bit_xor (f n) (g n) = xor_block w F G (f n) (g n) (hf n) (hg n) in
    let a : bit_and (bit_xor F G * 2 ^ w + bit_xor (f n) (g n)) (M * 2 ^ w + m) ≡ bit_and (bit_xor F G) M * 2 ^ w + bit_and (bit_xor (f n) (g n)) m =
    and_block w (bit_xor F G) M (bit_xor (f n) (g n)) m (xor_lt w (f n) (g n) (hf n) (hg n)) small in
    ap (λ (z : ℕ). bit_xor (F * 2 ^ w + f n) (bit_and z (M * 2 ^ w + m))) x
    ∙ ap (bit_xor (F * 2 ^ w + f n)) a
    ∙ xor_block w F (bit_and (bit_xor F G) M) (f n) (bit_and (bit_xor (f n) (g n)) m) (hf n) (and_lt w (bit_xor (f n) (g n)) m (xor_lt w (f n) (g n) (hf n) (hg n)) small)
    ∙ ap₂ (λ (u v : ℕ). u * 2 ^ w + v) (mixed_digits w f g t l hf hg (suc n) k) (digit w (f n) (g n) (t n) l (hf n) (hg n))
  where
    top : (u : Bool) → pick u (2 ^ w - 1) 0 < 2 ^ w
    top true = omega (arith, pow_pos w)
    top false = pow_pos w
