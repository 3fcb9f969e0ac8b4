-- The indexes of each subset's own pixels, merged: those of all sixteen. For any number of subsets, and merge2 is the case of two.
use Prim.Native.Nat.{ℕ, zero, suc, ◌+◌, ◌^◌, ◌≤◌, ◌<◌}
use native.Mathlib.Nat.{add-zero}
use native.Mathlib.Omega.{arith}
use mathlib.Core.Path.{◌≡◌, refl, sym, ap, ◌∙◌, subst}
use mathlib.Core.Bool.{Bool, true, false}
use mathlib.Core.List.{List, [], ◌∷◌, ◌++◌, map, append-nil, append_assoc}
use lib.Dec.{eqb}
use lib.ListN.{length, get_or, set, drop, replicate, length-replicate, length-set, get_or-replicate}
use lib.Pow.{pow_pos}
use lib.Seq.{get_or-drop, drop-drop, get_or-set_same, get_or-set_other}
use borrow.Author.Tests.{eqb-true, eqb-false, eq-eqb}
use Rattle.lists.specs.Tests.{pick}
use Rattle.lists.specs.Rows.{up_from}
use Rattle.lists.specs.Bits.{join}
use Rattle.bptc.specs.Partition.{subset_of}
use Rattle.bptc.proofs.PartitionRule.{subset_two}
use Rattle.bptc_rust.specs.Words.{loop}
use Rattle.bptc_rust.specs.Subset2Map.{get_subset_index}
use Rattle.bptc_rust.specs.IndexList.{get, put, merge2}
use Rattle.bptc_rust.specs.Internal.Merge.{merge_step, merge_n}
use Rattle.bptc_rust.proofs.Table.{map_of, subset-same}
use Rattle.bptc_rust.proofs.Members.{pixels, members}
use Rattle.bptc_rust.proofs.Digits.{digits, Small, get_digits, put_digits, small_snoc, length_snoc}

next-at : (xs : List ℕ) (j x : ℕ) (ys : List ℕ) → drop j xs ≡ x ∷ ys → (get_or xs j 0 ≡ x) × (drop (j + 1) xs ≡ ys)
next-at xs j x ys e = (
  ap (λ (n : ℕ). get_or xs n 0) (sym (add-zero j)) ∙ sym (get_or-drop j xs 0 0)
      ∙ ap (λ (l : List ℕ). get_or l 0 0) e,
  sym (drop-drop 1 j xs) ∙ ap (drop 1) e,
)

module _ (n I : ℕ) (narrow : I ≤ 4) (subset : ℕ → ℕ) (inside : (i : ℕ) → subset i < n) (N : ℕ → ℕ → ℕ) (small : (s i : ℕ) → N s i < 2 ^ I)
    (L : ℕ → List ℕ) (tiny : (s : ℕ) → Small I (L s)) where
  -- the index of pixel i
  abbrev R : ℕ → ℕ
  R i = N (subset i) i

  -- the lists as numbers
  abbrev lists : ℕ → ℕ
  lists s = digits I (L s)

  put_on : (k v : ℕ) (done : List ℕ) → length done ≡ k → k < 16 → Small I done → v < 2 ^ I → put I (digits I done) k v
      ≡ digits I (done ++ (v ∷ []))
  put_on k v done q l h hv = subst (λ (k : ℕ). put I (digits I done) k v ≡ digits I (done ++ (v ∷ []))) q
      (put_digits I narrow done v (omega arith) h hv)

  -- what is left of each list are the indexes of its later pixels
  abbrev Left : List ℕ → ℕ → ℕ → Type 0
  Left js k from = (s : ℕ) → s < n → drop (get_or js s 0) (L s) ≡ map (N s) (members subset s (up_from from k))

  left-next : (js : List ℕ) (k from : ℕ) → length js ≡ n → Left js (suc k) from →
      Left (set js (subset from) (get_or js (subset from) 0 + 1)) k (suc from)
  unfolding members
  left-next js k from long left s h = go (eqb (subset from) s) refl (left s h)
    where
      go : (t : Bool) → eqb (subset from) s ≡ t →
          drop (get_or js s 0) (L s) ≡ map (N s)
          (pick t (from ∷ members subset s (up_from (suc from) k)) (members subset s (up_from (suc from) k))) →
          drop (get_or (set js (subset from) (get_or js (subset from) 0 + 1)) s 0) (L s)
          ≡ map (N s) (members subset s (up_from (suc from) k))
      go true e d =
          let q : subset from ≡ s = eqb-true (subset from) s e in
          rw (q, get_or-set_same js s (get_or js s 0 + 1) 0 (omega arith)) (next-at (L s) (get_or js s 0) (N s from) _ d).1
      go false e d =
          let ne : subset from ≡ s → ⊥ = eqb-false (subset from) s e in
          rw (get_or-set_other js (subset from) s (get_or js (subset from) 0 + 1) 0 (λ r. ne (sym r))) d

  left_here : (js : List ℕ) (k from : ℕ) → Left js (suc k) from → get_or (L (subset from)) (get_or js (subset from) 0) 0 ≡ R from
  unfolding members
  left_here js k from left =
      let s : ℕ = subset from in
      let d = left s (inside from) in
      (next-at (L s) (get_or js s 0) (R from) (map (N s) (members subset s (up_from (suc from) k))) (rw (eq-eqb s s refl) at d)).0

  merge_on : (k from : ℕ) (js done : List ℕ) → length done ≡ from → length js ≡ n → from + k ≤ 16 → Small I done → Left js k from →
      (loop (up_from from k) (digits I done, js) (merge_step I subset lists)).0 ≡ digits I (done ++ map R (up_from from k))
  merge_on zero from js done q long l h left = ap (digits I) (sym (append-nil done))
  merge_on (suc k) from js done q long l h left =
      let s : ℕ = subset from in
      let js' : List ℕ = set js s (get_or js s 0 + 1) in
      let value : get I (lists s) (get_or js s 0) ≡ R from = get_digits I narrow (L s) (get_or js s 0) (tiny s)
      ∙ left_here js k from left in
      ap (λ (x : ℕ). (loop (up_from (suc from) k) (x, js') (merge_step I subset lists)).0)
      (ap (put I (digits I done) from) value ∙ put_on from (R from) done q (omega arith) h (small s from))
      ∙ merge_on k (suc from) js' (done ++ (R from ∷ [])) (length_snoc done (R from) ∙ ap suc q) (rw length-set long) (omega arith)
      (small_snoc I done (R from) h (small s from))
      (left-next js k from long left)
      ∙ ap (digits I) (append_assoc done (R from ∷ []) (map R (up_from (suc from) k)))

small_map : (I : ℕ) (N : ℕ → ℕ) → ((i : ℕ) → N i < 2 ^ I) → (is : List ℕ) → Small I (map N is)
small_map I N h [] i = pow_pos I
small_map I N h (x ∷ is) zero = h x
small_map I N h (x ∷ is) (suc i) = small_map I N h is i

-- the indexes of all sixteen
pub merged : (n I : ℕ) → I ≤ 4 → (subset : ℕ → ℕ) → ((i : ℕ) → subset i < n) → (N : ℕ → ℕ → ℕ) → ((s i : ℕ) → N s i < 2 ^ I) →
    merge_n n I subset (λ (s : ℕ). digits I (map (N s) (members subset s pixels))) ≡ digits I (map (λ (i : ℕ). N (subset i) i) pixels)
unfolding merge_n digits join
merged n I narrow subset inside N small =
    merge_on n I narrow subset inside N small (λ (s : ℕ). map (N s) (members subset s pixels))
    (λ s. small_map I (N s) (small s) (members subset s pixels))
    16 0 (replicate n 0) [] refl (length-replicate n 0) (omega arith) (λ i. pow_pos I)
    (λ s h. ap (λ (j : ℕ). drop j (map (N s) (members subset s pixels))) (get_or-replicate {A = ℕ} n s 0 0 h))

-- merge2 has the two counters by name
module _ (I part : ℕ) (lists : ℕ → ℕ) where
  -- its step
  abbrev step : ℕ × ℕ × ℕ → ℕ → ℕ × ℕ × ℕ
  step st i =
      pick (eqb (get_subset_index (map_of part) i) 0) (put I st.0 i (get I (lists 0) st.1), st.1 + 1, st.2)
      (put I st.0 i (get I (lists 1) st.2), st.1, st.2 + 1)

  -- a state with its counters in a list
  abbrev listed : ℕ × ℕ × ℕ → ℕ × List ℕ
  listed st = (st.0, st.1 ∷ (st.2 ∷ []))

  step_same : (st : ℕ × ℕ × ℕ) (i t : ℕ) → subset_of 2 part i ≡ t → t < 2 → listed (step st i)
      ≡ merge_step I (subset_of 2 part) lists (listed st) i
  step_same st i zero e h = rw (subset-same part i, e)
  step_same st i (suc zero) e h = rw (subset-same part i, e)
  step_same st i (suc (suc t)) e h = absurd (omega arith)

  steps_same : (is : List ℕ) (st : ℕ × ℕ × ℕ) → (loop is st step).0 ≡ (loop is (listed st) (merge_step I (subset_of 2 part) lists)).0
  steps_same [] st = refl
  steps_same (i ∷ is) st =
      steps_same is (step st i)
      ∙ ap (λ (r : ℕ × List ℕ). (loop is r (merge_step I (subset_of 2 part) lists)).0)
      (step_same st i (subset_of 2 part i) refl (subset_two part i))

  -- so it is the loop of two
  pub merge_two : merge2 I (map_of part) (lists 0) (lists 1) ≡ merge_n 2 I (subset_of 2 part) lists
  unfolding merge2 merge_n
  merge_two = steps_same pixels (0, 0, 0)
