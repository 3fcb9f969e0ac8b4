-- What the trials of both subsets give together is what finishing takes.
use Prim.Native.Nat.{ℕ, zero, suc, ◌+◌, ◌*◌, ◌^◌, ◌≤◌, ◌<◌}
use native.Mathlib.Omega.{arith}
use mathlib.Core.Path.{◌≡◌, sym, ap, ap₂, ◌∙◌}
use mathlib.Core.List.{List, map}
use lib.Dec.{eqb}
use lib.ListN.{get_or, length, replicate}
use lib.Pow.{pow_pos}
use Rattle.bptc.specs.declared.Rgb.{Rgb}
use Rattle.lists.specs.Tests.{pick}
use Rattle.lists.specs.Bytes.{Bytes}
use Rattle.lists.specs.Rows.{over_pixels}
use Rattle.lists.specs.Digits.{bit}
use Rattle.bptc.specs.Mode.{Mode, IsMode, largest}
use Rattle.bptc.specs.Colour.{Rgba, clear, without_alpha, pixels_of, squared_distance}
use Rattle.bptc.specs.Shown.{own, joined_own}
use Rattle.bptc.specs.Palette.{end_of, nearest}
use Rattle.bptc.specs.Internal.Masks.{mask_of, ones_of}
use Rattle.bptc.specs.Partition.{subset_of}
use Rattle.bptc.specs.Internal.Colour.{black, Below, colours_of}
use Rattle.bptc.specs.Internal.Shown.{Stored}
use Rattle.bptc.specs.Internal.Palette.{palette_colour}
use Rattle.bptc.specs.Internal.Nearest.{nearest_rgb}
use Rattle.lists.specs.Least.{first_least}
use Rattle.lists.proofs.Rows.{each_same}
use Rattle.lists.proofs.Least.{least-same}
use Rattle.lists.proofs.Sums.{pixels_most}
use Rattle.bptc.proofs.ColourBounds.{pixels-shown, dist_byte}
use Rattle.bptc.proofs.NearestIndex.{nearest_small}
use Rattle.bptc.proofs.Shading.{palette_byte}
use Rattle.bptc.proofs.Modes.{by_mode, shades_of, few_colours}
use Rattle.bptc.proofs.Opaque.{opaque, pixels_opaque}
use Rattle.bptc.specs.Internal.Closest.{closest_in}
use Rattle.bptc_block.specs.declared.PBits.TheVariants.{Free}
use Rattle.lists.specs.Bits.{join}
use Rattle.bptc_block.specs.Finish.{other_bits, error_in, bits_in, chosen_bits}
use Rattle.bptc_block.proofs.Modes.{lawful_of}
use Rattle.bptc_block.proofs.Chosen.{own_bits_lem}
use Rattle.bptc_block.proofs.Opaque.{two_subsets, nearest_index, error_closest}
use Rattle.closest.specs.declared.pick.Picked.{Picked}
use Rattle.keys.specs.Keys.{bias}
use Rattle.closest.specs.Found.{index_in, biased_in, indexes_in}
use Rattle.closest.specs.Pick.{bias_all, mixed, bits_for, picked_at, picked_for}
use Rattle.keys.proofs.KeySums.{channel-sum}
use Rattle.closest.proofs.Joining.{joined_from}
use Rattle.choices.proofs.Mixing.{mixed_digits}
use Rattle.choices.proofs.Subsets.{least-raised, over, rest, over_is, rest_all}
use Rattle.choices.proofs.BestOfFour.{least-map}

-- what a pixel is raised by is at most the greatest distance
raised_most : (p : Rgb) → Below 256 p → bias p ≤ 195075
unfolding bias
raised_most p h =
    omega (arith, channel-sum p.r 255 h.r (omega arith), channel-sum p.g 255 h.g (omega arith), channel-sum p.b 255 h.b (omega arith))

-- the p-bits of two subsets
joined_two : (m : Mode) → IsMode m → (q : ℕ → ℕ) → joined_own m q ≡ q 0 + q 1 * 2 ^ m.own_bits
unfolding joined_own join
joined_two = by_mode (λ (m : Mode). (q : ℕ → ℕ) → joined_own m q ≡ q 0 + q 1 * 2 ^ m.own_bits) (λ q. omega arith) (λ q. omega arith)

module _ (m : Mode) (is : IsMode m) (part : ℕ) (ends : List Rgb) where
  -- the raised distances of all pixels are small
  pub all_small : Stored m ends → (px : List ℕ) → Bytes px → (p mask : ℕ) → over_pixels (biased_in m ends p mask (colours_of px)) ≤ 16 * 390150
  all_small stored px bytes p mask =
      pixels_most _ 390150
      (λ i h.
      let c : Rgb = get_or (colours_of px) i black in
      let two : bit mask i < 2 = omega arith in
      omega (
        arith,
        raised_most c (pixels-shown px bytes i),
        dist_byte c (palette_colour m ends p (bit mask i) (nearest_rgb m ends p (bit mask i) c)) (pixels-shown px bytes i)
            (palette_byte m (shades_of m is) ends p (bit mask i) (nearest_rgb m ends p (bit mask i) c) two (nearest_small m ends p (bit mask i) c) stored),
      ))

  -- the raised distances of both subsets are the errors and what all pixels are raised by
  pub over-sum : (cs : List Rgb) (p : ℕ) {n : ℕ} → n ≡ over m part ends cs 0 p + over m part ends cs 1 p →
      n ≡ (closest_in m part ends p 0 cs).error + (closest_in m part ends p 1 cs).error + bias_all cs
  over-sum cs p e = omega (arith, over_is m part ends cs 0 p, over_is m part ends cs 1 p, rest_all m part ends cs)

  -- over 48 bytes
  module _ (px : List ℕ) (long : length px ≡ 48) where
    -- the colours of the pixels
    abbrev cs : List Rgb
    cs = colours_of px

    -- the same with an alpha
    abbrev pixels : List Rgba
    pixels = pixels_of 3 px

    same : (i : ℕ) → i < 16 → get_or pixels i clear ≡ opaque (get_or cs i black)
    same = pixels_opaque px long

    -- the error of subset s at its own p-bits
    abbrev error_at : ℕ → ℕ → ℕ
    error_at s q = error_in squared_distance m part (without_alpha ends) pixels s q

    -- the own p-bits by which subset s is finished
    abbrev pub kept : ℕ → ℕ
    kept s = bits_in squared_distance m part (without_alpha ends) Free pixels s

    -- and those of both
    abbrev chosen : ℕ
    chosen = bits_for m part ends Free px

    own-chosen : (s : ℕ) → s < 2 → own m chosen s ≡ kept s
    own-chosen s two = own_bits_lem squared_distance m (lawful_of m is) part (without_alpha ends) pixels Free s (rw (two_subsets m is) two)

    -- the raised distances of a subset look at its own p-bits alone
    over-own : (s p : ℕ) → s < 2 → over m part ends cs s p ≡ error_at s (own m p s) + rest m part ends cs s
    over-own s p two = over_is m part ends cs s p ∙ ap (λ (n : ℕ). n + rest m part ends cs s) (sym (error_closest m is part ends cs pixels same p s two))

    over-same : (s p q : ℕ) → s < 2 → own m p s ≡ own m q s → over m part ends cs s p ≡ over m part ends cs s q
    over-same s p q two e = over-own s p two ∙ ap (λ (r : ℕ). error_at s r + rest m part ends cs s) e ∙ sym (over-own s q two)

    -- and so do its indices
    near-same : (s p q i : ℕ) → s < 2 → i < 16 → own m p s ≡ own m q s → nearest_rgb m ends p s (get_or cs i black) ≡ nearest_rgb m ends q s (get_or cs i black)
    near-same s p q i two h e =
        sym (nearest_index m is part ends cs pixels same p s two i h)
        ∙ ap (λ (r : ℕ). nearest squared_distance m (end_of (without_alpha ends) s 0) (end_of (without_alpha ends) s 1) r (get_or pixels i clear)) e
        ∙ nearest_index m is part ends cs pixels same q s two i h

    -- the first p-bits of least raised distances have the own p-bits that the subset keeps, if theirs are tried in the same order
    pub least-own : (s : ℕ) → s < 2 → (p : ℕ → ℕ) (best : ℕ) (xs : List ℕ) → own m (p best) s ≡ 0 → map (λ (x : ℕ). own m (p x) s) xs ≡ other_bits m.own_bits →
        own m (p (first_least (λ (x : ℕ). over m part ends cs s (p x)) best xs)) s ≡ kept s
    unfolding bits_in
    least-own s two p best xs none others =
        let q : ℕ → ℕ = λ (x : ℕ). own m (p x) s in
        ap q
        (least-same (λ (x : ℕ). over m part ends cs s (p x)) (λ (x : ℕ). error_at s (q x) + rest m part ends cs s) xs best (λ x there. over-own s (p x) two)
        ∙ least-raised (λ (x : ℕ). error_at s (q x)) (rest m part ends cs s) best xs)
        ∙ sym (least-map (error_at s) q best xs)
        ∙ ap₂ (first_least (error_at s)) none others

    -- of the indices at q and those at r, each where its subset's pixels stand
    abbrev pub either : ℕ → ℕ → ℕ → ℕ
    either q r i = pick (eqb (bit (mask_of part) i) 1) (index_in m ends r (mask_of part) cs i) (index_in m ends q (mask_of part) cs i)

    -- by the bits of subset 1's indices
    pub mixed_indexes : (q r : ℕ) →
        mixed (indexes_in m ends q (mask_of part) cs) (indexes_in m ends r (mask_of part) cs) (ones_of m.index_bits part) ≡ joined_from m.index_bits (either q r) 0 16
    unfolding indexes_in ones_of largest subset_of
    mixed_indexes q r =
        let small : (p i : ℕ) → index_in m ends p (mask_of part) cs i < 2 ^ m.index_bits =
        λ p i. omega (arith, nearest_small m ends p (bit (mask_of part) i) (get_or cs i black), pow_pos m.index_bits) in
        mixed_digits m.index_bits (index_in m ends q (mask_of part) cs) (index_in m ends r (mask_of part) cs) (λ (i : ℕ). eqb (bit (mask_of part) i) 1) (omega (arith, few_colours m is, pow_pos m.index_bits)) (small q) (small r) 0 16

    -- p-bits with the own ones that the subsets keep
    module _ (q r : ℕ) (low : own m q 0 ≡ kept 0) (high : own m r 1 ≡ kept 1) where
      chosen-index : (i : ℕ) → i < 16 → either q r i ≡ index_in m ends chosen (mask_of part) cs i
      chosen-index i h = go (bit (mask_of part) i) (omega arith)
        where
          go : (b : ℕ) → b < 2 → pick (eqb b 1) (nearest_rgb m ends r b (get_or cs i black)) (nearest_rgb m ends q b (get_or cs i black)) ≡ nearest_rgb m ends chosen b (get_or cs i black)
          go zero l = near-same 0 q chosen i l h (low ∙ sym (own-chosen 0 l))
          go (suc zero) l = near-same 1 r chosen i l h (high ∙ sym (own-chosen 1 l))
          go (suc (suc b)) l = absurd (omega arith)

      chosen-sum : over m part ends cs 0 q + over m part ends cs 1 r ≡ over m part ends cs 0 chosen + over m part ends cs 1 chosen
      chosen-sum =
          ap₂ ◌+◌ (over-same 0 q chosen (omega arith) (low ∙ sym (own-chosen 0 (omega arith)))) (over-same 1 r chosen (omega arith) (high ∙ sym (own-chosen 1 (omega arith))))

      chosen-bits : own m q 0 + own m r 1 * 2 ^ m.own_bits ≡ chosen
      unfolding chosen_bits
      chosen-bits = ap₂ (λ (x y : ℕ). x + y * 2 ^ m.own_bits) low high ∙ sym (joined_two m is kept)

      -- are mixed, by the bits of subset 1's indices, to what finishing gives where they are free
      pub mixed-picked : (n : ℕ) → n ≡ own m q 0 + own m r 1 * 2 ^ m.own_bits →
          ◌≡◌ {A = Picked}
          (record {
            indexes = mixed (indexes_in m ends q (mask_of part) cs) (indexes_in m ends r (mask_of part) cs) (ones_of m.index_bits part);
            sum = over m part ends cs 0 q + over m part ends cs 1 r;
            p = n;
          })
          (picked_for m part ends Free px)
      unfolding picked_at indexes_in
      mixed-picked n e =
          λ t. record {
            indexes = (mixed_indexes q r ∙ ap (join (replicate 16 m.index_bits)) (each_same 0 _ _ 16 chosen-index)) t;
            sum = over-sum cs chosen chosen-sum t;
            p = (e ∙ chosen-bits) t;
          }
