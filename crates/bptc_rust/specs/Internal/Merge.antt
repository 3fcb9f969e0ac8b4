-- bc7.rs: IndexList::merge2 and merge3 as one loop with a counter for each subset.
use Rattle.std.specs.Prelude.{ℕ, ◌+◌, List, get_or, set, replicate}
use Rattle.lists.specs.Rows.{up_from}
use Rattle.bptc_rust.specs.Words.{loop}
use Rattle.bptc_rust.specs.IndexList.{get, put}

-- one step at pixel i: the next index of its subset
abbrev pub merge_step : ℕ → (ℕ → ℕ) → (ℕ → ℕ) → ℕ × List ℕ → ℕ → ℕ × List ℕ
merge_step I subset lists st i =
    let s : ℕ = subset i in
    let j : ℕ = get_or st.1 s 0 in
    (put I st.0 i (get I (lists s) j), set st.1 s (j + 1))

-- the indexes of n subsets, each where its pixel stands
unfoldable pub merge_n : ℕ → ℕ → (ℕ → ℕ) → (ℕ → ℕ) → ℕ
merge_n n I subset lists = (loop (up_from 0 16) (0, replicate n 0) (merge_step I subset lists)).0
