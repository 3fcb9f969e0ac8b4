-- A bit taken out of a number: the digits below it stay, those above it come down.
use Prim.Native.Nat.{ℕ, suc, ◌+◌, ◌-◌, ◌*◌, ◌/◌, ◌%◌, ◌^◌, ◌≤◌, ◌<◌}
use native.Mathlib.Nat.{add_comm, add-suc, mul_assoc, pow-suc, mod-lt, add-mul, add_assoc}
use native.Mathlib.Numerals.{one-add}
use native.Mathlib.Omega.{arith}
use mathlib.Core.Path.{◌≡◌, sym, ap, ap₂, ◌∙◌}
use lib.Bits.{bit_and, bit_or, and_mask, and_high, or_shifted_r, shifted_half}
use lib.Pow.{pow_pos, pow-add, pow_mono, shr-shr, shr_mod, mod-pow-add, high, low, split}
use Rattle.bptc_rust.specs.CompressedIndexList.{compress_single_index}
use Rattle.bptc_rust.proofs.Digits.{one_shl}

-- bit k taken out
unfoldable pub without : ℕ → ℕ → ℕ
without k n = n / 2 ^ suc k * 2 ^ k + n % 2 ^ k

masks : (k : ℕ) → k < 63 → (2 ^ 64 - 1 - (2 ^ k - 1)) * 2 ^ 1 % 2 ^ 64 ≡ 2 ^ 64 - 2 ^ suc k
masks k l =
    let top : 2 ^ k ≤ 2 ^ 63 = pow_mono {i = k} {j = 63} (omega arith) in
    rw (pow-suc 2 k) (omega (arith, pow_pos k))

masked : (n k : ℕ) → n < 2 ^ 64 → k < 63 → bit_or (bit_and n (2 ^ k - 1)) (bit_and n ((2 ^ 64 - 1 - (2 ^ k - 1)) * 2 ^ 1 % 2 ^ 64) / 2 ^ 1) ≡ without k n
unfolding without
masked n k h l =
    let e : 63 - k + suc k ≡ 64 = omega arith in
    let above : bit_and n (2 ^ 64 - 2 ^ suc k) ≡ n / 2 ^ suc k * 2 ^ suc k =
    rw e at (and_high n (63 - k) (suc k)) ∙ ap (λ (x : ℕ). x * 2 ^ suc k) (shr_mod (63 - k) (suc k) (rw e h)) in
    rw (masks k l, above, and_mask, shifted_half) (or_shifted_r (n / 2 ^ suc k) k (n % 2 ^ k) (mod-lt n (pow_pos k)))

-- compress_single_index
pub single_index : (I n i : ℕ) → n < 2 ^ 64 → I - 1 + i * I < 63 → compress_single_index I n i ≡ without (I - 1 + i * I) n
unfolding compress_single_index
single_index I n i h l = rw (one_shl 64 (I - 1 + i * I) (omega arith)) (masked n (I - 1 + i * I) h l)

-- the top bit of the lowest field
pub without_first : (w v x : ℕ) → v < 2 ^ w → without w (x * 2 ^ suc w + v) ≡ x * 2 ^ w + v
unfolding without
without_first w v x h =
    let wide : v < 2 ^ suc w = rw (pow-suc 2 w) (omega arith) in
    let e : x * 2 ^ suc w ≡ (2 * x) * 2 ^ w = rw (pow-suc 2 w) (omega arith) in
    let below : (x * 2 ^ suc w + v) % 2 ^ w ≡ v = rw e (low (2 * x) w h) in
    rw (high x (suc w) wide, below)

-- a bit above the lowest field
pub without_later : (w v x k : ℕ) → v < 2 ^ w → without (w + k) (x * 2 ^ w + v) ≡ without k x * 2 ^ w + v
unfolding without
without_later w v x k h =
    let n : ℕ = x * 2 ^ w + v in
    let q : ℕ = x / 2 ^ suc k in
    let r : ℕ = x % 2 ^ k in
    let above : n / 2 ^ suc (w + k) ≡ q = ap (λ (i : ℕ). n / 2 ^ i) (sym (add-suc w k)) ∙ sym (shr-shr n w (suc k)) ∙ ap (λ (i : ℕ). i / 2 ^ suc k) (high x w h) in
    let below : n % 2 ^ (w + k) ≡ r * 2 ^ w + v =
    ap (λ (i : ℕ). n % 2 ^ i) (add_comm w k) ∙ mod-pow-add n k w ∙ ap₂ (λ (i j : ℕ). i % 2 ^ k * 2 ^ w + j) (high x w h) (low x w h) in
    rw (above, below, add_comm w k, pow-add 2 k w, add-mul (q * 2 ^ k) r (2 ^ w), mul_assoc q (2 ^ k) (2 ^ w)) (sym (add_assoc _ _ _))

-- the number does not grow
pub without_le : (n k : ℕ) → without k n ≤ n
unfolding without
without_le n k =
    let q : ℕ = n / 2 ^ suc k in
    let e : 2 ^ suc k ≡ 2 ^ k * 2 = pow-suc 2 k in
    let whole : q * 2 ^ k * 2 + n % 2 ^ suc k ≡ n = ap (λ (x : ℕ). x + n % 2 ^ suc k) (mul_assoc q (2 ^ k) 2 ∙ ap (λ (x : ℕ). q * x) (sym e)) ∙ split n (suc k) in
    let rest : n % 2 ^ k ≤ n % 2 ^ suc k = rw (← one-add k, mod-pow-add n 1 k) (omega arith) in
    omega arith
