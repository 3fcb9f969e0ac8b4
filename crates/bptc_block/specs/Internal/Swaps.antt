-- The endpoints and the p-bits of two subsets, each swapped or not, as the code has them.
use Rattle.std.specs.Prelude.{ℕ, ◌+◌, ◌*◌, ◌/◌, ◌%◌, Bool, List, [], ◌∷◌, eqb, get_or}
use Rattle.lists.specs.Tests.{pick}
use Rattle.bptc.specs.declared.Rgb.{Rgb}
use Rattle.bptc.specs.Mode.{Mode}
use Rattle.bptc.specs.Internal.Colour.{black}
use Rattle.bptc.specs.Shown.{own, joined_own}
use Rattle.bptc_block.specs.Exchange.{swapped_own}

-- the endpoints of both subsets, each exchanged or not
abbrev pub swapped_ends : List Rgb → Bool → Bool → List Rgb
swapped_ends ends t u =
    let e : ℕ → Rgb = λ k. get_or ends k black in
    pick t (e 1) (e 0) ∷ (pick t (e 0) (e 1) ∷ (pick u (e 3) (e 2) ∷ (pick u (e 2) (e 3) ∷ [])))

-- the two p-bits of a subset of mode 3, exchanged or not
abbrev pub swapped_bits : Bool → ℕ → ℕ
swapped_bits t p = pick t (p % 2 * 2 + p / 2) p

-- the p-bits of both subsets
abbrev pub exchanged_both : Mode → Bool → Bool → ℕ → ℕ
exchanged_both m t u p = joined_own m (λ (s : ℕ). swapped_own m (pick (eqb s 0) t u) (own m p s))
