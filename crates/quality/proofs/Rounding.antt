-- Laws of the rounded mean, with the whole part and the remainder scaled apart.
use Prim.Native.Nat.{ℕ, ◌+◌, ◌*◌, ◌/◌, ◌%◌, ◌<◌, ◌≤◌}
use native.Mathlib.Nat.{mul_right_comm, div-add-mod', mul-add-div_right, div-mul-le_self, lt-div-mul-add, div-le_of_le-mul}
use native.Mathlib.Omega.{arith}
use mathlib.Core.Path.{◌≡◌, sym, ap, ◌∙◌}
use borrow.Author.Tests.{ne_eqb}
use Rattle.quality.specs.Mean.{mean_of, MeanNearest}

-- the rounded mean is the whole part times 1000 and the rounded quotient of the scaled remainder
pub mean_split : (total values : ℕ) → 0 < values →
    total / values * 1000 + (total % values * 2000 + values) / (2 * values) ≡ (2000 * total + values) / (2 * values)
mean_split total values some =
    let q : ℕ = total / values in
    let rest : ℕ = total % values * 2000 + values in
    let whole : 2000 * total + values ≡ q * 1000 * (2 * values) + rest =
    omega (arith, div-add-mod' total values, mul_right_comm q 2000 values) in
    sym (ap (λ (n : ℕ). n / (2 * values)) whole ∙ mul-add-div_right (omega arith) (q * 1000) rest)

-- the mean of some values is the rounded quotient
pub mean_some : (total values : ℕ) → 0 < values → mean_of total values ≡ (2000 * total + values) / (2 * values)
unfolding mean_of
mean_some total values some = rw (ne_eqb values 0 (λ z. omega arith))

-- the whole part of a mean is at most what a value is at most
pub whole_most : (total values most : ℕ) → total ≤ most * values → total / values ≤ most
whole_most total values most h = div-le_of_le-mul values (omega arith)

-- the rounded mean is the nearest
pub mean_nearest : MeanNearest
mean_nearest total values some =
    let p : 0 < 2 * values = omega arith in
    rw (mean_some total values some)
    (record {
      not_low = omega (arith, lt-div-mul-add {a = 2000 * total + values} p);
      not_high = omega (arith, div-mul-le_self (2000 * total + values) (2 * values));
    })
