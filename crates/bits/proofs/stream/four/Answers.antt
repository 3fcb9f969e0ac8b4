-- `bits::stream::four` meets its contract.
use mathlib.Core.Path.{◌≡◌, refl, ap, ◌∙◌}
use mathlib.Core.List.{[], ◌∷◌}
use lib.ListN.{replicate}
use borrow.Author.Rules.{rules}
use Rattle.lists.proofs.Rows.{listed}
use Prim.Native.Nat.{ℕ, ◌+◌, ◌*◌, ◌%◌, ◌^◌, ◌<◌, ◌≤◌}
use native.Mathlib.Nat.{zero-mul, zero-add, lt_of_lt_of_le}
use native.Mathlib.Omega.{arith}
use lib.Arith.{digits_lt}
use lib.Pow.{pow-add, pow_mono, shl_exact}
use Rattle.lists.specs.Bits.{join}
use Rattle.bits.proofs.stream.four.Goals as goal

-- each sum has the bits of its channels, and no shift loses any
module _ {bits a b c d : ℕ} (few : bits ≤ 8) (first : a < 2 ^ bits) (second : b < 2 ^ bits) (third : c < 2 ^ bits) (fourth : d < 2 ^ bits) where
  -- the sum of two
  two-lt : d * 2 ^ bits + c < 2 ^ (bits + bits)
  two-lt = rw pow-add (digits_lt fourth third)

  -- of three
  three-lt : (d * 2 ^ bits + c) * 2 ^ bits + b < 2 ^ (bits + bits + bits)
  three-lt = rw pow-add (digits_lt two-lt second)

  -- of four
  four-lt : ((d * 2 ^ bits + c) * 2 ^ bits + b) * 2 ^ bits + a < 2 ^ (bits + bits + bits + bits)
  four-lt = rw pow-add (digits_lt three-lt first)

  -- the shift before the sum of two
  exact₂ : d * 2 ^ bits % 2 ^ 64 ≡ d * 2 ^ bits
  exact₂ = shl_exact bits bits 64 fourth (omega arith)

  -- before that of three
  exact₃ : (d * 2 ^ bits + c) * 2 ^ bits % 2 ^ 64 ≡ (d * 2 ^ bits + c) * 2 ^ bits
  exact₃ = shl_exact (bits + bits) bits 64 two-lt (omega arith)

  -- before that of four
  exact₄ : ((d * 2 ^ bits + c) * 2 ^ bits + b) * 2 ^ bits % 2 ^ 64 ≡ ((d * 2 ^ bits + c) * 2 ^ bits + b) * 2 ^ bits
  exact₄ = shl_exact (bits + bits + bits) bits 64 three-lt (omega arith)

  -- so the sums fit
  pub two-fits : d * 2 ^ bits % 2 ^ 64 + c < 2 ^ 64
  two-fits = rw exact₂ (lt_of_lt_of_le two-lt (pow_mono {j = 64} (omega arith)))

  pub three-fits : (d * 2 ^ bits % 2 ^ 64 + c) * 2 ^ bits % 2 ^ 64 + b < 2 ^ 64
  three-fits = rw (exact₂, exact₃) (lt_of_lt_of_le three-lt (pow_mono {j = 64} (omega arith)))

  pub four-fits : ((d * 2 ^ bits % 2 ^ 64 + c) * 2 ^ bits % 2 ^ 64 + b) * 2 ^ bits % 2 ^ 64 + a < 2 ^ 64
  four-fits = rw (exact₂, exact₃, exact₄) (lt_of_lt_of_le four-lt (pow_mono {j = 64} (omega arith)))

  -- and the last is the number
  pub four-is : (((d * 2 ^ bits % 2 ^ 64 + c) * 2 ^ bits % 2 ^ 64 + b) * 2 ^ bits % 2 ^ 64 + a ≡ join (replicate 4 bits) (a ∷ (b ∷ (c ∷ (d ∷ [])))))
      × (((d * 2 ^ bits % 2 ^ 64 + c) * 2 ^ bits % 2 ^ 64 + b) * 2 ^ bits % 2 ^ 64 + a < 2 ^ (4 * bits))
  unfolding join
  four-is =
      let e : bits + bits + bits + bits ≡ 4 * bits = omega arith in
      rw (exact₂, exact₃, exact₄, zero-mul, zero-add) (refl, rw e at four-lt)

pub overflow_add-two : goal.overflow_add-two
overflow_add-two c =
    let small = c.requires in
    let few : c.args.width.bits ≤ 8 = omega (arith, c.args.width.narrow) in
    rw (c.from.ensures, c.from-2.ensures) (record { fits = two-fits few (small 0 (omega arith)) (small 1 (omega arith)) (small 2 (omega arith)) (small 3 (omega arith)) })

pub overflow_add-three : goal.overflow_add-three
overflow_add-three c =
    let small = c.requires in
    let few : c.args.width.bits ≤ 8 = omega (arith, c.args.width.narrow) in
    rw (c.from.ensures, c.from-2.ensures, c.from-3.ensures) (record { fits = three-fits few (small 0 (omega arith)) (small 1 (omega arith)) (small 2 (omega arith)) (small 3 (omega arith)) })

pub overflow_add-result : goal.overflow_add-result
overflow_add-result c =
    let small = c.requires in
    let few : c.args.width.bits ≤ 8 = omega (arith, c.args.width.narrow) in
    rw (c.from.ensures, c.from-2.ensures, c.from-3.ensures, c.from-4.ensures) (record { fits = four-fits few (small 0 (omega arith)) (small 1 (omega arith)) (small 2 (omega arith)) (small 3 (omega arith)) })

pub returns : goal.returns
returns c =
    let small = c.requires in
    let few : c.args.width.bits ≤ 8 = omega (arith, c.args.width.narrow) in
    let (same, below) = four-is few (small 0 (omega arith)) (small 1 (omega arith)) (small 2 (omega arith)) (small 3 (omega arith)) in
    let channels = c.args.channels in
    rw (c.from.ensures, c.from-2.ensures, c.from-3.ensures, c.from-4.ensures) (record { same = same ∙ ap (join (replicate 4 c.args.width.bits)) (listed 0 channels 4 (search rules)); small = below })
