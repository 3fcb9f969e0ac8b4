-- Endpoints and p-bits swapped two by two, for any number of subsets.
use Rattle.std.specs.Prelude.{ℕ, suc, ◌+◌, ◌*◌, Bool, List, [], ◌∷◌}
use Rattle.lists.specs.Tests.{pick}
use Rattle.bptc_rust.specs.Words.{swap}

-- swap(2s, 2s + 1) for each subset from s on that is swapped; d stands for what lies outside, and is never read
unfoldable pub swap_pairs : {A : Type 0} → A → List Bool → ℕ → List A → List A
swap_pairs d [] s xs = xs
swap_pairs d (t ∷ ts) s xs = swap_pairs d ts (suc s) (pick t (swap d xs (2 * s) (2 * s + 1)) xs)
