-- Endpoints and p-bits swapped two by two, as the Rust does after compressing the indexes, are those of the compressed fields.
use Prim.Native.Nat.{ℕ, suc, ◌+◌, ◌-◌, ◌*◌, ◌/◌, ◌%◌, ◌^◌, ◌≤◌, ◌<◌}
use native.Mathlib.Nat.{mod-lt, div-lt_iff_lt-mul}
use native.Mathlib.Omega.{arith}
use mathlib.Core.Path.{◌≡◌, refl, sym, ap, ap₂, ◌∙◌}
use mathlib.Core.Bool.{Bool, true, false}
use mathlib.Core.List.{List, [], ◌∷◌, map}
use lib.Dec.{eqb}
use lib.ListN.{length, get_or, set, replicate, length-set, length-map, length-replicate, get_or-replicate, get_or-map}
use lib.Pow.{shr-shr}
use lib.Seq.{map-set, get_or-set_same, get_or-set_other, ext_get_or}
use borrow.Author.Tests.{eqb-true, eqb-false, ne_eqb}
use Rattle.lists.specs.Tests.{pick, and}
use Rattle.lists.specs.Rows.{up_from}
use Rattle.bptc_rust.specs.Words.{swap}
use Rattle.bptc_rust.specs.Colour.{as_u8}
use Rattle.lists.proofs.Tests.{pick_elim, pick-map}
use Rattle.lists.proofs.Tables.{two}
use Rattle.lists.proofs.Rows.{length-up_from, get_or-each, each_same}
use Rattle.lists.specs.Internal.Fields.{Fits, none, more}
use Rattle.lists.specs.Bits.{split, join}
use Rattle.bptc_rust.proofs.Digits.{digits}
use Rattle.lists.proofs.Bits.{fits-split, fits-length, split-join, field}
use Rattle.bptc_block.specs.declared.Fields.{Fields}
use Rattle.bptc.specs.Mode.{Mode, endpoints, p_bits}
use Rattle.bptc.specs.Colour.{channel, clear, with_alpha, without_alpha}
use Rattle.bptc.specs.Internal.Colour.{black}
use Rattle.bptc.specs.Shown.{own, own_bit}
use Rattle.bptc_block.specs.Fields.{BlockFields, block_fields, Plain, stores, channel_values}
use Rattle.bptc_block.specs.Exchange.{swaps, swapped_own, swapped_place, swapped_by, compressed}
use Rattle.bptc_rust.specs.Internal.Swaps.{swap_pairs}
use Rattle.bptc.proofs.Colours.{stored_in_lem}
use Rattle.bptc_block.proofs.Modes.{Lawful}
use Rattle.bptc_block.proofs.OwnBits.{sum_front, joined-own, joined_same}
use Rattle.bptc_block.proofs.Swapped.{swapped_end, swapped_pbit, place_of, place_half}

module _ {A : Type 0} (d : A) where
  -- two places changed
  swap-length : (xs : List A) (i j : ℕ) → length (swap d xs i j) ≡ length xs
  swap-length xs i j = simp length-set

  swap-other : (xs : List A) (i j k : ℕ) → (k ≡ i → ⊥) → (k ≡ j → ⊥) → get_or (swap d xs i j) k d ≡ get_or xs k d
  swap-other xs i j k a b = get_or-set_other (set xs i (get_or xs j d)) j k (get_or xs i d) d b ∙ get_or-set_other xs i k (get_or xs j d) d a

  swap-second : (xs : List A) (i j : ℕ) → j < length xs → get_or (swap d xs i j) j d ≡ get_or xs i d
  swap-second xs i j h = get_or-set_same (set xs i (get_or xs j d)) j (get_or xs i d) d (rw length-set h)

  swap-first : (xs : List A) (i j : ℕ) → i < length xs → (i ≡ j → ⊥) → get_or (swap d xs i j) i d ≡ get_or xs j d
  swap-first xs i j h ne = get_or-set_other (set xs i (get_or xs j d)) j i (get_or xs i d) d ne ∙ get_or-set_same xs i (get_or xs j d) d h

  -- one pair, or none
  pair_at : (t : Bool) (xs : List A) (s k : ℕ) → 2 * s + 1 < length xs → k / 2 ≡ s → get_or (pick t (swap d xs (2 * s) (2 * s + 1)) xs) k d ≡ get_or xs (swapped_place t k) d
  pair_at false xs s k h e = refl
  pair_at true xs s k h e = go (eqb (k % 2) 0) refl
    where
      go : (u : Bool) → eqb (k % 2) 0 ≡ u → get_or (swap d xs (2 * s) (2 * s + 1)) k d ≡ get_or xs (2 * (k / 2) + (1 - k % 2)) d
      go true q =
          let z : k % 2 ≡ 0 = eqb-true (k % 2) 0 q in
          let here : k ≡ 2 * s = omega arith in
          let there : 2 * (k / 2) + (1 - k % 2) ≡ 2 * s + 1 = omega arith in
          ap (λ (j : ℕ). get_or (swap d xs (2 * s) (2 * s + 1)) j d) here ∙ swap-first xs (2 * s) (2 * s + 1) (omega arith) (λ r. omega arith) ∙ ap (λ (j : ℕ). get_or xs j d) (sym there)
      go false q =
          let z : k % 2 ≡ 0 → ⊥ = eqb-false (k % 2) 0 q in
          let here : k ≡ 2 * s + 1 = omega arith in
          let there : 2 * (k / 2) + (1 - k % 2) ≡ 2 * s = omega arith in
          ap (λ (j : ℕ). get_or (swap d xs (2 * s) (2 * s + 1)) j d) here ∙ swap-second xs (2 * s) (2 * s + 1) h ∙ ap (λ (j : ℕ). get_or xs j d) (sym there)

  pair_other : (t : Bool) (xs : List A) (s k : ℕ) → (k / 2 ≡ s → ⊥) → get_or (pick t (swap d xs (2 * s) (2 * s + 1)) xs) k d ≡ get_or xs k d
  pair_other false xs s k ne = refl
  pair_other true xs s k ne = swap-other xs (2 * s) (2 * s + 1) k (λ e. ne (omega arith)) (λ e. ne (omega arith))

  pair_length : (t : Bool) (xs : List A) (s : ℕ) → length (pick t (swap d xs (2 * s) (2 * s + 1)) xs) ≡ length xs
  pair_length true xs s = swap-length xs (2 * s) (2 * s + 1)
  pair_length false xs s = refl

  -- the pairs before s stay
  pairs_before : (ts : List Bool) (s : ℕ) (xs : List A) (k : ℕ) → k / 2 < s → get_or (swap_pairs d ts s xs) k d ≡ get_or xs k d
  unfolding swap_pairs
  pairs_before [] s xs k h = refl
  pairs_before (t ∷ ts) s xs k h = pairs_before ts (suc s) _ k (omega arith) ∙ pair_other t xs s k (λ e. omega arith)

  -- there are as many
  pub pairs_length : (ts : List Bool) (s : ℕ) (xs : List A) → length (swap_pairs d ts s xs) ≡ length xs
  unfolding swap_pairs
  pairs_length [] s xs = refl
  pairs_length (t ∷ ts) s xs = pairs_length ts (suc s) _ ∙ pair_length t xs s

  -- the others are swapped as the list says
  pub pairs_at : (ts : List Bool) (s : ℕ) (xs : List A) (k : ℕ) → 2 * (s + length ts) ≤ length xs → s ≤ k / 2 → k / 2 < s + length ts →
      get_or (swap_pairs d ts s xs) k d ≡ get_or xs (swapped_place (get_or ts (k / 2 - s) false) k) d
  unfolding swap_pairs
  pairs_at [] s xs k room from to = absurd (omega arith)
  pairs_at (t ∷ ts) s xs k room from to = go (eqb (k / 2) s) refl (pairs_at ts (suc s) (pick t (swap d xs (2 * s) (2 * s + 1)) xs) k)
    where
      go : (u : Bool) → eqb (k / 2) s ≡ u →
          (2 * (suc s + length ts) ≤ length (pick t (swap d xs (2 * s) (2 * s + 1)) xs) → suc s ≤ k / 2 → k / 2 < suc s + length ts →
          get_or (swap_pairs d ts (suc s) (pick t (swap d xs (2 * s) (2 * s + 1)) xs)) k d ≡ get_or (pick t (swap d xs (2 * s) (2 * s + 1)) xs) (swapped_place (get_or ts (k / 2 - suc s) false) k) d) →
          get_or (swap_pairs d ts (suc s) (pick t (swap d xs (2 * s) (2 * s + 1)) xs)) k d ≡ get_or xs (swapped_place (get_or (t ∷ ts) (k / 2 - s) false) k) d
      go true e later =
          let q : k / 2 ≡ s = eqb-true (k / 2) s e in
          let z : k / 2 - s ≡ 0 = omega arith in
          pairs_before ts (suc s) _ k (omega arith) ∙ pair_at t xs s k (omega arith) q ∙ ap (λ (j : ℕ). get_or xs (swapped_place (get_or (t ∷ ts) j false) k) d) (sym z)
      go false e later =
          let ne : k / 2 ≡ s → ⊥ = eqb-false (k / 2) s e in
          let z : k / 2 - s ≡ suc (k / 2 - suc s) = omega arith in
          let u : Bool = get_or ts (k / 2 - suc s) false in
          later (rw pair_length (omega arith)) (omega arith) (omega arith)
          ∙ pair_other t xs s (swapped_place u k) (λ r. ne (sym (place_half u k) ∙ r))
          ∙ ap (λ (j : ℕ). get_or xs (swapped_place (get_or (t ∷ ts) j false) k) d) (sym z)

-- a function of each element
module _ {A B : Type 0} (f : A → B) (d : A) where
  map-swap : (xs : List A) (i j : ℕ) → map f (swap d xs i j) ≡ swap (f d) (map f xs) i j
  map-swap xs i j =
      map-set f (set xs i (get_or xs j d)) j (get_or xs i d)
      ∙ ap (λ (ys : List B). set ys j (f (get_or xs i d))) (map-set f xs i (get_or xs j d))
      ∙ ap₂ (λ (a b : B). set (set (map f xs) i a) j b) (sym (get_or-map f xs j d)) (sym (get_or-map f xs i d))

  -- is swapped with it
  pub map_pairs : (ts : List Bool) (s : ℕ) (xs : List A) → map f (swap_pairs d ts s xs) ≡ swap_pairs (f d) ts s (map f xs)
  unfolding swap_pairs
  map_pairs [] s xs = refl
  map_pairs (t ∷ ts) s xs =
      map_pairs ts (suc s) (pick t (swap d xs (2 * s) (2 * s + 1)) xs)
      ∙ ap (swap_pairs (f d) ts (suc s)) (pick-map (map f) t (swap d xs (2 * s) (2 * s + 1)) xs ∙ ap (λ (ys : List B). pick t ys (map f xs)) (map-swap xs (2 * s) (2 * s + 1)))

-- the channels of the endpoints so swapped are those of the compressed fields
swapped-channels : (m : Mode) (law : Lawful m) (f : BlockFields) → Plain m f →
    channel_values m (swap_pairs clear (map (swaps m f) (up_from 0 m.subsets)) 0 f.ends) ≡ channel_values m (compressed m f).ends
unfolding channel_values compressed
swapped-channels m law f plain = each_same 0 _ _ (stores m) each
  where
    -- the swaps
    ts : List Bool
    ts = map (swaps m f) (up_from 0 m.subsets)

    size : length ts ≡ m.subsets
    size = length-map (up_from 0 m.subsets) (swaps m f) ∙ length-up_from m.subsets 0

    each : (x : ℕ) → x < stores m → channel (x / endpoints m) (get_or (swap_pairs clear ts 0 f.ends) (x % endpoints m) clear) ≡ channel (x / endpoints m) (get_or (compressed m f).ends (x % endpoints m) clear)
    each x h =
        let some : 0 < endpoints m = omega (arith, law.some) in
        let k : ℕ = x % endpoints m in
        let low : k < endpoints m = mod-lt x some in
        let half : k / 2 < m.subsets = omega arith in
        let inside : x / endpoints m < m.channels = (div-lt_iff_lt-mul some).1 h in
        let whole : k / 2 - 0 ≡ k / 2 = omega arith in
        ap (channel (x / endpoints m))
        (pairs_at clear ts 0 f.ends k (omega (arith, plain.room, law.few, size)) (omega arith) (omega (arith, size))
        ∙ ap (λ (j : ℕ). get_or f.ends (swapped_place (get_or ts j false) k) clear) whole
        ∙ ap (λ (t : Bool). get_or f.ends (swapped_place t k) clear) (get_or-each false (swaps m f) m.subsets (k / 2) half))
        ∙ sym (ap (channel (x / endpoints m)) (swapped_end m (swaps m f) f k low) ∙ stored_in_lem m _ law.shades.seen (x / endpoints m) inside)

-- and of those of three channels
pub rgb_swapped : (m : Mode) (law : Lawful m) (f : Fields) → Plain m (block_fields f) →
    channel_values m (without_alpha (swap_pairs black (map (swaps m (block_fields f)) (up_from 0 m.subsets)) 0 f.ends)) ≡ channel_values m (compressed m (block_fields f)).ends
unfolding without_alpha
rgb_swapped m law f plain =
    ap (channel_values m) (map_pairs (with_alpha 0) black (map (swaps m (block_fields f)) (up_from 0 m.subsets)) 0 f.ends) ∙ swapped-channels m law (block_fields f) plain

-- a p-bit in the number that holds them all, where each endpoint has its own
bit-place : (m : Mode) → m.own_bits ≡ 2 → (p s h : ℕ) → h < 2 → p / 2 ^ (2 * s + h) % 2 ≡ own_bit m.own_bits (own m p s) h
unfolding own own_bit
bit-place m e p s h l =
    let x : ℕ = p / 2 ^ (2 * s) in
    let low : (h : ℕ) → h < 2 → x / 2 ^ h % 2 ≡ x % 4 / 2 ^ h % 2 = two (λ (h : ℕ). x / 2 ^ h % 2 ≡ x % 4 / 2 ^ h % 2) (omega arith) (omega arith) in
    let twice : 2 * s ≡ s * 2 = omega arith in
    sym (ap (λ (y : ℕ). y % 2) (shr-shr p (2 * s) h)) ∙ low h l ∙ ap (λ (n : ℕ). p / 2 ^ n % 4 / 2 ^ h % 2) twice ∙ rw e

-- the number of a list of p-bits
abbrev pub p_number : List Bool → ℕ
p_number ps = digits 1 (map as_u8 ps)

-- a p-bit is 0 or 1
pub bit_small : (b : Bool) → as_u8 b < 2
bit_small true = omega arith
bit_small false = omega arith

bits_fit : (ps : List Bool) → Fits (replicate (length ps) 1) (map as_u8 ps)
bits_fit [] = none
bits_fit (b ∷ ps) = more (bit_small b) (bits_fit ps)

-- the p-bits one by one
abbrev pub bits_of : Mode → ℕ → List ℕ
bits_of m p = split (replicate (p_bits m) 1) p

module _ (m : Mode) (p : ℕ) where
  bits-length : length (bits_of m p) ≡ p_bits m
  bits-length = fits-length (fits-split (replicate (p_bits m) 1) p) ∙ length-replicate (p_bits m) 1

  bit_of : (j : ℕ) → j < p_bits m → get_or (bits_of m p) j 0 ≡ p / 2 ^ j % 2
  bit_of j h =
      let one : j * 1 ≡ j = omega arith in
      field (replicate (p_bits m) 1) p j ∙ ap₂ (λ (a b : ℕ). p / 2 ^ a % 2 ^ b) (sum_front (p_bits m) j 1 (omega arith) ∙ one) (get_or-replicate (p_bits m) j 1 0 h)

-- of a number that is that of a list
pub bits_listed : (m : Mode) (ps : List Bool) → length ps ≡ p_bits m → bits_of m (p_number ps) ≡ map as_u8 ps
unfolding digits
bits_listed m ps size =
    ap (λ (k : ℕ). split (replicate k 1) (p_number ps)) (sym size)
    ∙ ap (λ (k : ℕ). split (replicate (length ps) 1) (join (replicate k 1) (map as_u8 ps))) (length-map ps as_u8)
    ∙ split-join (bits_fit ps)

-- those of two endpoints swapped are those of the compressed fields
pub swapped-bits : (m : Mode) (law : Lawful m) → m.own_bits ≡ 2 → (f : BlockFields) →
    swap_pairs 0 (map (swaps m f) (up_from 0 m.subsets)) 0 (bits_of m f.p) ≡ bits_of m (compressed m f).p
unfolding compressed
swapped-bits m law e f =
    ext_get_or 0 (swap_pairs 0 ts 0 (bits_of m f.p)) (bits_of m (compressed m f).p) (pairs_length 0 ts 0 (bits_of m f.p) ∙ bits-length m f.p ∙ sym (bits-length m (compressed m f).p))
    (λ j h. each j (rw (pairs_length 0 ts 0 (bits_of m f.p), bits-length m f.p) at h))
  where
    -- the swaps
    ts : List Bool
    ts = map (swaps m f) (up_from 0 m.subsets)

    size : length ts ≡ m.subsets
    size = length-map (up_from 0 m.subsets) (swaps m f) ∙ length-up_from m.subsets 0

    all : p_bits m ≡ m.subsets * 2
    all = ap (λ (n : ℕ). m.subsets * n) e

    each : (j : ℕ) → j < p_bits m → get_or (swap_pairs 0 ts 0 (bits_of m f.p)) j 0 ≡ get_or (bits_of m (swapped_by m (swaps m f) f).p) j 0
    each j l =
        let s : ℕ = j / 2 in
        let h : ℕ = j % 2 in
        let half : s < m.subsets = omega (arith, all) in
        let whole : s - 0 ≡ s = omega arith in
        let j' : j ≡ 2 * s + h = omega arith in
        let g : ℕ = pick (swaps m f s) (1 - h) h in
        let few : g < 2 = pick_elim (λ (n : ℕ). n < 2) (swaps m f s) (λ t. omega arith) (λ t. omega arith) in
        let to : swapped_place (swaps m f s) j ≡ 2 * s + g = ap (swapped_place (swaps m f s)) j' ∙ place_of (swaps m f s) s h (omega arith) in
        pairs_at 0 ts 0 (bits_of m f.p) j (omega (arith, all, size, bits-length m f.p)) (omega arith) (omega (arith, size))
        ∙ ap (λ (i : ℕ). get_or (bits_of m f.p) (swapped_place (get_or ts i false) j) 0) whole
        ∙ ap (λ (t : Bool). get_or (bits_of m f.p) (swapped_place t j) 0) (get_or-each false (swaps m f) m.subsets s half)
        ∙ ap (λ (i : ℕ). get_or (bits_of m f.p) i 0) to
        ∙ bit_of m f.p (2 * s + g) (omega (arith, all))
        ∙ bit-place m e f.p s g few
        ∙ sym (bit_of m (swapped_by m (swaps m f) f).p j l
        ∙ ap (λ (i : ℕ). (swapped_by m (swaps m f) f).p / 2 ^ i % 2) j'
        ∙ bit-place m e (swapped_by m (swaps m f) f).p s h (omega arith)
        ∙ swapped_pbit m (swaps m f) f s h half (omega arith))

-- where the endpoints of a subset share a p-bit, or have none, the p-bits stay
pub kept-bits : (m : Mode) → (m.own_bits ≡ 2 → ⊥) → (f : BlockFields) → Plain m f → (compressed m f).p ≡ f.p
unfolding compressed swapped_by swapped_own
kept-bits m ne f plain =
    joined_same m _ (own m f.p) (λ s h. stays (swaps m f s) (own m f.p s)) ∙ joined-own m f.p plain.p
  where
    stays : (t : Bool) (q : ℕ) → pick (and t (eqb m.own_bits 2)) (q % 2 * 2 + q / 2) q ≡ q
    stays true q = rw (ne_eqb m.own_bits 2 ne)
    stays false q = refl
