-- closest_rgb over the pixels of a subset: the nearest indexes as digits, and the error of the subset.
use Prim.Native.Nat.{ℕ, suc, ◌+◌, ◌^◌, ◌≤◌, ◌<◌}
use native.Mathlib.Nat.{add-zero, zero-add}
use native.Mathlib.Omega.{arith}
use mathlib.Core.Path.{◌≡◌, refl, sym, ap, ◌∙◌}
use mathlib.Core.List.{List, [], ◌∷◌, ◌++◌, map, append_assoc, append-nil}
use lib.Dec.{eqb}
use lib.Pow.{pow_pos}
use lib.ListN.{length, get_or}
use Rattle.lists.specs.Tests.{pick}
use Rattle.lists.specs.Rows.{sum, over_pixels}
use Rattle.lists.specs.Bits.{join}
use Rattle.lists.proofs.Sums.{pixels-same}
use Rattle.bptc.specs.declared.Rgb.{Rgb}
use Rattle.bptc.specs.Mode.{Mode, largest}
use Rattle.bptc.specs.Partition.{subset_in}
use Rattle.bptc.specs.Colour.{Rgba, clear, without_alpha, squared_distance}
use Rattle.bptc.specs.Shown.{end_shown}
use Rattle.bptc.specs.Palette.{palette_of, end_of, nearest}
use Rattle.bptc.specs.Internal.Colour.{black, Below}
use Rattle.bptc.proofs.Modes.{Shades}
use Rattle.bptc.proofs.Largest.{largest-fits}
use Rattle.bptc.proofs.NearestIndex.{small_by}
use Rattle.bptc.proofs.Pixels.{Shown}
use Rattle.bptc.proofs.Opaque.{opaque}
use Rattle.bptc_block.specs.Finish.{nearest_apart, error_in}
use Rattle.bptc_rust.specs.Words.{loop, enumerate}
use Rattle.bptc_rust.specs.Palette.{palette_rgb, best_of}
use Rattle.bptc_rust.specs.IndexList.{put}
use Rattle.bptc_rust.specs.Closest.{closest, closest_rgb}
use Rattle.bptc_rust.proofs.Members.{pixels, members, members_few, members_sum}
use Rattle.bptc_rust.proofs.Painting.{Paints}
use Rattle.bptc_rust.proofs.BestOf.{best_nearest}
use Rattle.bptc_rust.proofs.Digits.{digits, Small, small_snoc, length_snoc, put_digits}

pair : {a a' b b' : ℕ} → a ≡ a' → b ≡ b' → ◌≡◌ {A = ℕ × ℕ} (a, b) (a', b')
pair p q = λ i. (p i, q i)

-- over any pixels, each with its index and its distance
module _ (I : ℕ) (narrow : I ≤ 4) (palette : List Rgb) (col : ℕ → Rgb) (N E : ℕ → ℕ) (small : (i : ℕ) → N i < 2 ^ I)
    (best : (i : ℕ) → best_of palette (col i) ≡ (N i, E i)) where
  -- one step of the loop
  abbrev step : ℕ × ℕ → ℕ × Rgb → ℕ × ℕ
  step s e = (put I s.0 e.0 (best_of palette e.1).0, s.1 + (best_of palette e.1).1)

  pixels_on : (is done : List ℕ) (error : ℕ) → length done + length is ≤ 16 → Small I done →
      loop (enumerate (length done) (map col is)) (digits I done, error) step ≡ (digits I (done ++ map N is), error + sum (map E is))
  pixels_on [] done error l h = pair (ap (digits I) (sym (append-nil done))) (sym (add-zero error))
  pixels_on (i ∷ is) done error l h =
      let done' : List ℕ = done ++ (N i ∷ []) in
      ap (λ (t : ℕ × ℕ). loop (enumerate (suc (length done)) (map col is)) (put I (digits I done) (length done) t.0, error + t.1) step)
      (best i)
      ∙ ap (λ (n : ℕ). loop (enumerate (suc (length done)) (map col is)) (n, error + E i) step)
      (put_digits I narrow done (N i) (omega arith) h (small i))
      ∙ ap (λ (k : ℕ). loop (enumerate k (map col is)) (digits I done', error + E i) step) (sym (length_snoc done (N i)))
      ∙ pixels_on is done' (error + E i) (omega (arith, length_snoc done (N i))) (small_snoc I done (N i) h (small i))
      ∙ pair (ap (digits I) (append_assoc done (N i ∷ []) (map N is))) (omega arith)

  closest_found : (is : List ℕ) → length is ≤ 16 → closest I palette (map col is) ≡ (digits I (map N is), sum (map E is))
  unfolding closest digits join
  closest_found is l = pixels_on is [] 0 (omega arith) (λ i. pow_pos I) ∙ pair refl (zero-add _)

-- over sixteen pixels that are opaque colours
module _ (m : Mode) (part : ℕ) (ends cs : List Rgb) where
  -- the nearest index of pixel i in subset s, with its own p-bits
  abbrev pub near_in : ℕ → ℕ → ℕ → ℕ
  near_in s q i = nearest squared_distance m (end_of (without_alpha ends) s 0) (end_of (without_alpha ends) s 1) q
      (opaque (get_or cs i black))

  -- it has the bits of an index
  pub near_small : (s q i : ℕ) → near_in s q i < 2 ^ m.index_bits
  near_small s q i =
      let x : Rgba = end_of (without_alpha ends) s 0 in
      let y : Rgba = end_of (without_alpha ends) s 1 in
      largest-fits m _ (omega (arith, small_by squared_distance (palette_of m x y q) (largest m) (opaque (get_or cs i black))))

  -- the indexes of its pixels
  abbrev pub indexes_in : ℕ → ℕ → ℕ
  indexes_in s q = digits m.index_bits (map (near_in s q) (members (subset_in m part) s pixels))

  module _ (px : List Rgba) (same : (i : ℕ) → i < 16 → get_or px i clear ≡ opaque (get_or cs i black))
      (bytes : (i : ℕ) → Below 256 (get_or cs i black)) (s q : ℕ) where
    -- the distance of pixel i there
    abbrev far : Rgba → ℕ
    far c = nearest_apart squared_distance m (end_of (without_alpha ends) s 0) (end_of (without_alpha ends) s 1) q c

    error-same : sum (map (λ (i : ℕ). far (opaque (get_or cs i black))) (members (subset_in m part) s pixels))
        ≡ error_in squared_distance m part (without_alpha ends) px s q
    unfolding error_in over_pixels
    error-same =
        members_sum (subset_in m part) s (λ (i : ℕ). far (opaque (get_or cs i black))) pixels
        ∙ pixels-same _ _ (λ i h. ap (λ (c : Rgba). pick (eqb (subset_in m part i) s) (far c) 0) (sym (same i h)))

    -- closest_rgb on the pixels of subset s, between the colours that its endpoints show
    pub closest_same : Shades m → Paints m → m.index_bits ≤ 4 → (a b : Rgb) →
        end_shown m q 0 (end_of (without_alpha ends) s 0) ≡ opaque a → end_shown m q 1 (end_of (without_alpha ends) s 1) ≡ opaque b →
        Shown (end_shown m q 0 (end_of (without_alpha ends) s 0)) → Shown (end_shown m q 1 (end_of (without_alpha ends) s 1)) →
        closest_rgb m.index_bits a b (map (λ (i : ℕ). get_or cs i black) (members (subset_in m part) s pixels))
        ≡ (indexes_in s q, error_in squared_distance m part (without_alpha ends) px s q)
    unfolding closest_rgb
    closest_same shades paints narrow a b low high u v =
        closest_found m.index_bits narrow (palette_rgb m.index_bits a b) (λ (i : ℕ). get_or cs i black) (near_in s q)
        (λ (i : ℕ). far (opaque (get_or cs i black)))
        (near_small s q)
        (λ i. best_nearest m (end_of (without_alpha ends) s 0) (end_of (without_alpha ends) s 1) q a b low high shades paints u v
        (get_or cs i black) (bytes i))
        (members (subset_in m part) s pixels) (members_few (subset_in m part) s pixels)
        ∙ pair refl error-same
