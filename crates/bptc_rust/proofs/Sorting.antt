-- sort_block: the colours of subset 0 stand before those of subset 1, each in their order.
use Prim.Native.Nat.{ℕ, zero, suc, ◌+◌, ◌<◌}
use native.Mathlib.Omega.{arith}
use mathlib.Core.Path.{◌≡◌, refl, sym, ap, ap₂, ◌∙◌}
use mathlib.Core.Bool.{Bool, true, false}
use mathlib.Core.List.{List, [], ◌∷◌, ◌++◌, map, map-append}
use lib.Bits.{bit_and}
use lib.Count.{ones_in}
use lib.Dec.{T, eqb, ltb, eqb→eq}
use lib.ListN.{length, get_or, set, take, drop, get_or-map, get_or-eq_default, length-map}
use lib.Seq.{take_at, drop_at}
use Rattle.lists.specs.Tests.{pick, and}
use Rattle.lists.specs.Rows.{up_from}
use Rattle.lists.proofs.Tests.{and_left, and_right}
use Rattle.lists.proofs.Tables.{tested}
use Rattle.lists.proofs.Rows.{listed}
use Rattle.bptc.specs.declared.Rgb.{Rgb}
use Rattle.bptc.specs.Partition.{masks, table, digits_of, subset_of}
use Rattle.bptc.specs.Internal.Colour.{black}
use Rattle.bptc_rust.specs.Words.{loop, shl, differs}
use Rattle.bptc_rust.specs.Subset2Map.{Subset2Map, get_subset_index, count_zeros, bitset, sort_block}
use Rattle.bptc_rust.proofs.Table.{map_of}
use Rattle.bptc_rust.proofs.Members.{pixels, members}

-- the test of two lists
abbrev same : List ℕ → List ℕ → Bool
same [] [] = true
same [] (y ∷ ys) = false
same (x ∷ xs) [] = false
same (x ∷ xs) (y ∷ ys) = and (eqb x y) (same xs ys)

same_eq : (xs ys : List ℕ) → T (same xs ys) → xs ≡ ys
same_eq [] [] t = refl
same_eq [] (y ∷ ys) t = absurd t
same_eq (x ∷ xs) [] t = absurd t
same_eq (x ∷ xs) (y ∷ ys) t = ap₂ ◌∷◌ (eqb→eq x y (and_left (eqb x y) (same xs ys) t)) (same_eq xs ys (and_right (eqb x y) (same xs ys) t))

-- sixteen numbers are sorted so, in every partition
numbers_sorted : (part : ℕ) → part < 64 → sort_block 16 (map_of part) pixels ≡ members (subset_of 2 part) 0 pixels ++ members (subset_of 2 part) 1 pixels
unfolding sort_block bitset get_subset_index map_of digits_of table masks subset_of members
numbers_sorted part h = same_eq _ _ (tested (λ (p : ℕ). same (sort_block 16 (map_of p) pixels) (members (subset_of 2 p) 0 pixels ++ members (subset_of 2 p) 1 pixels)) 64 tt part h)

zeros-counted : (part : ℕ) → part < 64 → count_zeros (map_of part) ≡ length (members (subset_of 2 part) 0 pixels)
unfolding count_zeros ones_in map_of digits_of table masks subset_of members
zeros-counted part h = eqb→eq _ _ (tested (λ (p : ℕ). eqb (count_zeros (map_of p)) (length (members (subset_of 2 p) 0 pixels))) 64 tt part h)

-- and so is whatever stands at them
map-set : {A : Type 0} (f : ℕ → A) (xs : List ℕ) (i x : ℕ) → set (map f xs) i (f x) ≡ map f (set xs i x)
map-set f [] i x = refl
map-set f (y ∷ ys) zero x = refl
map-set {A} f (y ∷ ys) (suc i) x = ap {B = List A} (λ (zs : List A). f y ∷ zs) (map-set f ys i x)

module _ {A : Type 0} (f : ℕ → A) (d : ℕ) (s : Subset2Map) where
  -- one step of the loop
  abbrev move : {B : Type 0} → B → List B → List B × ℕ → ℕ → List B × ℕ
  move {B} e original st i =
      pick (and (differs (bit_and (bitset s) (shl 32 1 i)) 0) (ltb st.1 16)) (set st.0 st.1 (get_or original (bit_and i 0x0F) e), st.1 + 1) (st.0, st.1)

  moved : (original block : List ℕ) (count i : ℕ) →
      move (f d) (map f original) (map f block, count) i ≡ (map f (move d original (block, count) i).0, (move d original (block, count) i).1)
  moved original block count i = go (and (differs (bit_and (bitset s) (shl 32 1 i)) 0) (ltb count 16))
    where
      go : (t : Bool) →
          ◌≡◌ {A = List A × ℕ} (pick t (set (map f block) count (get_or (map f original) (bit_and i 0x0F) (f d)), count + 1) (map f block, count)) (
            map f (pick {A = List ℕ × ℕ} t (set block count (get_or original (bit_and i 0x0F) d), count + 1) (block, count)).0,
            (pick {A = List ℕ × ℕ} t (set block count (get_or original (bit_and i 0x0F) d), count + 1) (block, count)).1,
          )
      go true = ap {B = List A × ℕ} (λ (xs : List A). (xs, count + 1)) (ap (set (map f block) count) (get_or-map f original (bit_and i 0x0F) d) ∙ map-set f block count (get_or original (bit_and i 0x0F) d))
      go false = refl

  moves : (original is : List ℕ) (st : List ℕ × ℕ) → (loop is (map f st.0, st.1) (move (f d) (map f original))).0 ≡ map f (loop is st (move d original)).0
  moves original [] st = refl
  moves original (i ∷ is) st =
      ap (λ (t : List A × ℕ). (loop is t (move (f d) (map f original))).0) (moved original st.0 st.1 i) ∙ moves original is (move d original st i)

  sort_map : (xs : List ℕ) → sort_block (f d) s (map f xs) ≡ map f (sort_block d s xs)
  unfolding sort_block
  sort_map xs = moves xs (up_from 0 32) (xs, 0)

module _ (part : ℕ) (inside : part < 64) (cs : List Rgb) (sixteen : length cs ≡ 16) where
  -- the colour of pixel i
  abbrev col : ℕ → Rgb
  col i = get_or cs i black

  sorted : sort_block black (map_of part) cs ≡ map col (members (subset_of 2 part) 0 pixels) ++ map col (members (subset_of 2 part) 1 pixels)
  sorted =
      let outside : col 16 ≡ black = get_or-eq_default cs black {n = 16} (omega arith) in
      ap₂ (λ (d : Rgb) (xs : List Rgb). sort_block d (map_of part) xs) (sym outside) (sym (listed black cs 16 sixteen))
      ∙ sort_map col 16 (map_of part) pixels
      ∙ ap (map col) (numbers_sorted part inside)
      ∙ map-append col (members (subset_of 2 part) 0 pixels) (members (subset_of 2 part) 1 pixels)

  counted : length (map col (members (subset_of 2 part) 0 pixels)) ≡ count_zeros (map_of part)
  counted = simp length-map (sym (zeros-counted part inside))

  -- the part before split_index
  pub first-pixels : take (count_zeros (map_of part)) (sort_block black (map_of part) cs) ≡ map col (members (subset_of 2 part) 0 pixels)
  first-pixels = ap (take (count_zeros (map_of part))) sorted ∙ take_at (map col (members (subset_of 2 part) 0 pixels)) (map col (members (subset_of 2 part) 1 pixels)) _ counted

  -- and the part from it on
  pub second-pixels : drop (count_zeros (map_of part)) (sort_block black (map_of part) cs) ≡ map col (members (subset_of 2 part) 1 pixels)
  second-pixels = ap (drop (count_zeros (map_of part))) sorted ∙ drop_at (map col (members (subset_of 2 part) 0 pixels)) (map col (members (subset_of 2 part) 1 pixels)) _ counted
