-- `bc7_c::checks::index_mask` meets its contract.
use native.Mathlib.Nat.{lt_of_le_of_lt, mul-le-mul_right}
use native.Mathlib.Omega.{arith}
use Prim.Native.Nat.{◌≤◌}
use lib.Dec.{lit<}
use Rattle.bptc.proofs.Modes.{few_colours}
use Rattle.bc7_c.proofs.Masked.{index-mask}
use Rattle.bc7_c.proofs.checks.index_mask.Goals as goal

pub overflow_mul-result : goal.overflow_mul-result
overflow_mul-result g c =
    let few : c.from.result ≤ 7 = rw (c.from.ensures, c.max_index.ensures) (omega (arith, few_colours g.M.Mode.mode g.M.Mode.is_mode)) in
    record { fits = lt_of_le_of_lt (mul-le-mul_right 1229782938247303441 few) (lit< tt) }

pub returns : goal.returns
returns g c = rw (c.from.ensures, c.max_index.ensures) (index-mask g.M.Mode.mode g.M.Mode.is_mode)
