-- `shades::shades` meets its contract. The invariant: the bytes of the first k blocks are written.
use Rattle.std.proofs.Common.{ℕ, ◌*◌, ◌/◌, ◌≡◌, get_or}
use Rattle.lists.specs.Rows.{written}
use Rattle.shades.specs.Shade.{shade_of}
use Rattle.shades.proofs.shades.Given as goal

abbrev pub invariant-loop-k : goal.invariant-loop-k
invariant-loop-k l = l.out ≡ written (λ (i : ℕ). shade_of l.scale (get_or l.errors (i / 3) 0) l.white) (3 * l.k) l.initial.out
