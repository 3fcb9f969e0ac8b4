-- Laws of a block's fields: they fit their widths, and their values and they make each other.
use Prim.Native.Nat.{ℕ, zero, suc, ◌+◌, ◌-◌, ◌*◌, ◌/◌, ◌%◌, ◌^◌, ◌<◌, ◌≤◌}
use native.Mathlib.Nat.{le_refl, lt_of_lt_of_le, mod-lt, div-lt_iff_lt-mul, div-add-mod'}
use native.Mathlib.Omega.{arith}
use mathlib.Core.Path.{◌≡◌, refl, sym, ap, ap₂, ◌∙◌, subst}
use mathlib.Core.Bool.{Bool, true, false}
use mathlib.Core.List.{List, ◌∷◌, ◌++◌, map}
use lib.Arith.{digits_lt, digits_div, digits_mod}
use lib.Dec.{eqb, ltb}
use lib.ListN.{length, get_or, take, drop, replicate, length-map, length-append, length-replicate, length-drop, get_or-replicate, get_or-append, get_or-eq_default}
use lib.Pow.{pow-lt, pow_mono, le_ones, lt_of_le_ones}
use lib.Seq.{get_or-drop, get_or-take, drop-drop, drop-cons, split_at, length-take-le, get_or_at, drop-append-add, get_or-append-add}
use borrow.Author.Tests.{lt-ltb, le-ltb, ltb-true, ltb-false, eqb-true}
use Rattle.lists.specs.Tests.{pick, and}
use Rattle.lists.specs.Rows.{up_from}
use Rattle.lists.proofs.Tests.{pick_elim}
use Rattle.lists.proofs.Rows.{length-up_from, get_or-each, each_same, listed}
use Rattle.lists.specs.Internal.Fields.{Fits}
use Rattle.lists.specs.Internal.Fields.{more}
use Rattle.lists.proofs.Bits.{fits_append, fits_places}
use Rattle.bptc.specs.Colour.{Rgba}
use Rattle.bptc_block.specs.Fields.{BlockFields, places}
use Rattle.bptc.specs.Mode.{Mode, endpoints, p_bits, largest}
use Rattle.bptc.specs.Partition.{subset_in, anchor_in}
use Rattle.bptc.specs.Colour.{colour_by, channel, clear}
use Rattle.bptc_block.specs.Fields.{index_width, Plain, Clean, WellFormed, stores, widths, channel_values, values, value_at, made}
use Rattle.bptc.proofs.Colours.{by_same, colour-channels, channel_by, channel_past}
use Rattle.bptc_block.proofs.Modes.{Lawful, subset-below}

-- an index up to the largest has the mode's bits
pub largest-fits : (m : Mode) (i : ℕ) → i < suc (largest m) → i < 2 ^ m.index_bits
unfolding largest
largest-fits m i h = lt_of_le_ones m.index_bits (omega arith)

-- and back
pub fits-largest : (m : Mode) (i : ℕ) → i < 2 ^ m.index_bits → i < suc (largest m)
unfolding largest
fits-largest m i h = omega (arith, le_ones m.index_bits h)

width_small : (m : Mode) (part i : ℕ) → index_width m part i ≤ m.index_bits
unfolding index_width
width_small m part i =
    pick_elim (λ (w : ℕ). w ≤ m.index_bits) (eqb i (anchor_in m part (subset_in m part i))) (λ t. omega arith) (λ t. le_refl _)

-- what a block can hold may be packed
pub plain_of : (m : Mode) (f : BlockFields) → WellFormed m f → Plain m f
plain_of m f w =
    record {
      partition = w.within.partition;
      room = w.within.room;
      channels = w.within.channels;
      p = w.within.p;
      sixteen = w.within.sixteen;
      indices = λ i h. fits-largest m _ (lt_of_lt_of_le (w.within.indices i h) (pow_mono (width_small m f.partition i)));
    }

-- clear has no channel
pub channel-clear : (j : ℕ) → channel j clear ≡ 0
unfolding channel
channel-clear zero = refl
channel-clear (suc zero) = refl
channel-clear (suc (suc zero)) = refl
channel-clear (suc (suc (suc zero))) = refl
channel-clear (suc (suc (suc (suc j)))) = refl

-- indices with the top bit 0 at every anchor fit their widths
pub index-fits : (m : Mode) (law : Lawful m) (part : ℕ) (is : List ℕ) → ((i : ℕ) → i < 16 → get_or is i 0 < suc (largest m)) →
    ((s : ℕ) → s < m.subsets → get_or is (anchor_in m part s) 0 < 2 ^ (m.index_bits - 1)) → (i : ℕ) → i < 16 → get_or is i 0 < 2 ^ index_width m part i
unfolding index_width
index-fits m law part is each low i h =
    let s : ℕ = subset_in m part i in
    pick_elim (λ (w : ℕ). get_or is i 0 < 2 ^ w) (eqb i (anchor_in m part s))
    (λ t. subst (λ (a : ℕ). get_or is a 0 < 2 ^ (m.index_bits - 1)) (sym (eqb-true i (anchor_in m part s) t)) (low s (subset-below m law part i)))
    (λ t. largest-fits m _ (each i h))

module _ (m : Mode) (law : Lawful m) where
  positive : 0 < endpoints m
  positive = omega (arith, law.some)

  six_enough : endpoints m ≤ places
  six_enough = omega (arith, law.few)

  -- a channel is among them
  pub place_lt : (j k : ℕ) → j < m.channels → k < endpoints m → j * endpoints m + k < stores m
  place_lt j k hj hk = digits_lt hj hk

  -- there are as many values as stored channels
  pub channels-length : (ends : List Rgba) → length (channel_values m ends) ≡ stores m
  unfolding channel_values
  channels-length ends = length-map (up_from 0 (stores m)) _ ∙ length-up_from (stores m) 0

  -- a channel among the values
  pub channel-value : (ends : List Rgba) (j k : ℕ) → j < m.channels → k < endpoints m → get_or (channel_values m ends) (j * endpoints m + k) 0 ≡ channel j (get_or ends k clear)
  unfolding channel_values
  channel-value ends j k hj hk =
      get_or-each 0 (λ (x : ℕ). channel (x / endpoints m) (get_or ends (x % endpoints m) clear)) (stores m) (j * endpoints m + k) (place_lt j k hj hk)
      ∙ ap₂ (λ (a b : ℕ). channel a (get_or ends b clear)) (digits_div j hk) (digits_mod j hk)

  -- a channel's place in all values
  value_in : (f : BlockFields) (x : ℕ) → x < stores m → get_or (values m f) (2 + x) 0 ≡ get_or (channel_values m f.ends) x 0
  unfolding values
  value_in f x h = sym (get_or-drop 2 (values m f) x 0) ∙ get_or-append (channel_values m f.ends) (f.p ∷ f.indices) 0 x (rw channels-length h)

  -- a value that the mode has
  value-at : (vs : List ℕ) (k j : ℕ) → k < endpoints m → j < m.channels → value_at m vs k j ≡ get_or vs (2 + (j * endpoints m + k)) 0
  unfolding value_at
  value-at vs k j hk hj = rw (lt-ltb k (endpoints m) hk, lt-ltb j m.channels hj)

  -- and those that it does not have
  value_late : (vs : List ℕ) (k j : ℕ) → endpoints m ≤ k → value_at m vs k j ≡ 0
  unfolding value_at
  value_late vs k j h = rw (le-ltb k (endpoints m) h)

  value-alpha : (vs : List ℕ) (k j : ℕ) → m.channels ≤ j → value_at m vs k j ≡ 0
  unfolding value_at
  value-alpha vs k j h = go (ltb k (endpoints m))
    where
      go : (t : Bool) → pick (and t (ltb j m.channels)) (get_or vs (2 + (j * endpoints m + k)) 0) 0 ≡ 0
      go true = rw (le-ltb j m.channels h)
      go false = refl

  end_made : (f : BlockFields) → Clean m f → (k : ℕ) → colour_by (value_at m (values m f) k) ≡ get_or f.ends k clear
  end_made f clean k = by_same _ _ (λ j l. go j (ltb k (endpoints m)) refl (ltb j m.channels) refl) ∙ colour-channels (get_or f.ends k clear)
    where
      go : (j : ℕ) (t : Bool) → ltb k (endpoints m) ≡ t → (u : Bool) → ltb j m.channels ≡ u → value_at m (values m f) k j ≡ channel j (get_or f.ends k clear)
      go j true e true d =
          let hk : k < endpoints m = ltb-true k (endpoints m) e in
          let hj : j < m.channels = ltb-true j m.channels d in
          value-at (values m f) k j hk hj ∙ value_in f (j * endpoints m + k) (place_lt j k hj hk) ∙ channel-value f.ends j k hj hk
      go j true e false d = value-alpha (values m f) k j (ltb-false j _ d) ∙ sym (clean.alpha k j (ltb-false j _ d))
      go j false e u d = value_late (values m f) k j (ltb-false k _ e) ∙ sym (clean.later k j (ltb-false k _ e))

  p-made : (f : BlockFields) → get_or (values m f) (2 + stores m) 0 ≡ f.p
  unfolding values
  p-made f = sym (get_or-drop 2 (values m f) (stores m) 0) ∙ get_or_at (channel_values m f.ends) f.p f.indices 0 (stores m) (channels-length f.ends)

  indices-made : (f : BlockFields) → drop (3 + stores m) (values m f) ≡ f.indices
  unfolding values
  indices-made f =
      let e : 3 + stores m ≡ 2 + (stores m + 1) = omega arith in
      let cs : List ℕ = channel_values m f.ends in
      ap (λ (n : ℕ). drop n (values m f)) e
      ∙ sym (drop-drop (stores m + 1) 2 (values m f))
      ∙ ap (λ (n : ℕ). drop (n + 1) (cs ++ (f.p ∷ f.indices))) (sym (channels-length f.ends))
      ∙ drop-append-add cs (f.p ∷ f.indices) 1

  part-made : (f : BlockFields) → get_or (values m f) 1 0 ≡ f.partition
  unfolding values
  part-made f = refl

  -- the fields of values
  pub made-values : (f : BlockFields) → WellFormed m f → made m (values m f) ≡ f
  unfolding made
  made-values f w =
      let ends : map (λ (k : ℕ). colour_by (value_at m (values m f) k)) (up_from 0 places) ≡ f.ends =
      each_same clear _ (λ (k : ℕ). get_or f.ends k clear) places (λ k h. end_made f w.clean k) ∙ listed clear f.ends places w.within.room in
      λ t. record { partition = part-made f t; ends = ends t; p = p-made f t; indices = indices-made f t }

  -- endpoint k of what was made
  pub made_end : (vs : List ℕ) (k : ℕ) → k < places → get_or (made m vs).ends k clear ≡ colour_by (value_at m vs k)
  unfolding made
  made_end vs k h = get_or-each clear (λ (k : ℕ). colour_by (value_at m vs k)) places k h

  made-channel : (vs : List ℕ) (j k : ℕ) → j < m.channels → k < endpoints m → channel j (get_or (made m vs).ends k clear) ≡ get_or vs (2 + (j * endpoints m + k)) 0
  made-channel vs j k hj hk =
      ap (channel j) (made_end vs k (lt_of_lt_of_le hk six_enough))
      ∙ channel_by (value_at m vs k) j (lt_of_lt_of_le hj law.shades.seen)
      ∙ value-at vs k j hk hj

  channels-made : (vs : List ℕ) → 2 + stores m ≤ length vs → channel_values m (made m vs).ends ≡ take (stores m) (drop 2 vs)
  unfolding channel_values
  channels-made vs long =
      each_same 0 _ (λ (x : ℕ). get_or (take (stores m) (drop 2 vs)) x 0) (stores m) each
      ∙ listed 0 (take (stores m) (drop 2 vs)) (stores m) (length-take-le (stores m) (drop 2 vs) (simp length-drop (omega arith)))
    where
      each : (x : ℕ) → x < stores m → channel (x / endpoints m) (get_or (made m vs).ends (x % endpoints m) clear) ≡ get_or (take (stores m) (drop 2 vs)) x 0
      each x h =
          made-channel vs (x / endpoints m) (x % endpoints m) ((div-lt_iff_lt-mul positive).1 h) (mod-lt x positive)
          ∙ ap (λ (y : ℕ). get_or vs (2 + y) 0) (div-add-mod' x (endpoints m))
          ∙ sym (get_or-take (stores m) (drop 2 vs) x 0 h ∙ get_or-drop 2 vs x 0)

  -- the values of fields, where the first value says the mode
  pub values-made : (vs : List ℕ) → length vs ≡ 19 + stores m → get_or vs 0 0 ≡ 2 ^ m.number → values m (made m vs) ≡ vs
  unfolding values made
  values-made vs e h =
      let N : ℕ = stores m in
      let rest : List ℕ = drop 2 vs in
      let first : vs ≡ get_or vs 0 0 ∷ drop 1 vs = drop-cons vs 0 0 (omega arith) in
      let second : drop 1 vs ≡ get_or vs 1 0 ∷ rest = drop-cons vs 1 0 (omega arith) in
      let third : rest ≡ take N rest ++ (get_or rest N 0 ∷ drop (suc N) rest) = split_at rest N 0 (simp length-drop (omega arith)) in
      let same : channel_values m (made m vs).ends ≡ take N rest = channels-made vs (omega arith) in
      let p : get_or vs (2 + N) 0 ≡ get_or rest N 0 = sym (get_or-drop 2 vs N 0) in
      let three : 3 + N ≡ 2 + suc N = omega arith in
      let is : drop (3 + N) vs ≡ drop (suc N) rest = ap (λ (n : ℕ). drop n vs) three ∙ sym (drop-drop (suc N) 2 vs) in
      ap₂ (λ (a : ℕ) (l : List ℕ). a ∷ (get_or vs 1 0 ∷ l)) (sym h)
      (ap₂ (λ (a : List ℕ) (l : List ℕ). a ++ l) same (ap₂ (λ (a : ℕ) (l : List ℕ). a ∷ l) p is) ∙ sym third)
      ∙ sym (first ∙ ap (λ (l : List ℕ). get_or vs 0 0 ∷ l) second)

  -- the channels fit
  pub channel-fits : (f : BlockFields) → WellFormed m f →
      (i : ℕ) → i < length (replicate (stores m) m.channel_bits) → get_or (channel_values m f.ends) i 0 < 2 ^ get_or (replicate (stores m) m.channel_bits) i 0
  unfolding channel_values
  channel-fits f w i l =
      let h : i < stores m = rw length-replicate at l in
      rw (get_or-replicate (stores m) i m.channel_bits 0 h, get_or-each 0 (λ (x : ℕ). channel (x / endpoints m) (get_or f.ends (x % endpoints m) clear)) (stores m) i h)
      (w.within.channels (i % endpoints m) (mod-lt i positive) (i / endpoints m) ((div-lt_iff_lt-mul positive).1 h))

  -- the values of fields fit their widths
  pub fits-values : (f : BlockFields) → WellFormed m f → Fits (widths m f.partition) (values m f)
  unfolding widths values
  fits-values f w =
      let cs : List ℕ = channel_values m f.ends in
      more (pow-lt {i = m.number} {j = m.number + 1} (omega arith)) (more w.within.partition
      (fits_append
      (fits_places (replicate (stores m) m.channel_bits) cs (channels-length f.ends ∙ sym (length-replicate (stores m) m.channel_bits)) (channel-fits f w))
      (more w.within.p
      (fits_places (map (index_width m f.partition) (up_from 0 16)) f.indices w.within.sixteen
      (λ i l. rw (get_or-each 0 (index_width m f.partition) 16 i l) (w.within.indices i l))))))

  module _ (part : ℕ) where
    -- the number of fields
    pub length-widths : length (widths m part) ≡ 19 + stores m
    unfolding widths
    length-widths = simp (length-append, length-replicate) (omega arith)

    -- the widths of the channels
    pub channel_width : (x : ℕ) → x < stores m → get_or (widths m part) (2 + x) 0 ≡ m.channel_bits
    unfolding widths
    channel_width x h =
        sym (get_or-drop 2 (widths m part) x 0)
        ∙ get_or-append (replicate (stores m) m.channel_bits) (p_bits m ∷ map (index_width m part) (up_from 0 16)) 0 x (rw length-replicate h)
        ∙ get_or-replicate (stores m) x m.channel_bits 0 h

    -- of the p-bits
    pub bits_width : get_or (widths m part) (2 + stores m) 0 ≡ p_bits m
    unfolding widths
    bits_width =
        sym (get_or-drop 2 (widths m part) (stores m) 0)
        ∙ get_or_at (replicate (stores m) m.channel_bits) (p_bits m) (map (index_width m part) (up_from 0 16)) 0 (stores m) (length-replicate (stores m) m.channel_bits)

    -- and of the indices
    pub width_at : (i : ℕ) → i < 16 → get_or (widths m part) (3 + stores m + i) 0 ≡ index_width m part i
    unfolding widths
    width_at i h =
        let e : 3 + stores m + i ≡ 2 + (stores m + suc i) = omega arith in
        let rs : List ℕ = replicate (stores m) m.channel_bits in
        let ws : List ℕ = p_bits m ∷ map (index_width m part) (up_from 0 16) in
        ap (λ (n : ℕ). get_or (widths m part) n 0) e
        ∙ sym (get_or-drop 2 (widths m part) (stores m + suc i) 0)
        ∙ ap (λ (n : ℕ). get_or (rs ++ ws) (n + suc i) 0) (sym (length-replicate (stores m) m.channel_bits))
        ∙ get_or-append-add rs ws (suc i) 0
        ∙ get_or-each 0 (index_width m part) 16 i h

  -- what the values of such widths make is well formed, where their partition is the widths' own
  module _ (part : ℕ) (vs : List ℕ) (long : length vs ≡ 19 + stores m) (fits : (i : ℕ) → get_or vs i 0 < 2 ^ get_or (widths m part) i 0) (own : get_or vs 1 0 ≡ part) where
    made_none : (k j : ℕ) → value_at m vs k j ≡ 0 → channel j (get_or (made m vs).ends k clear) ≡ 0
    unfolding made
    made_none k j e = go (ltb k places) refl (ltb j 4) refl
      where
        go : (t : Bool) → ltb k places ≡ t → (u : Bool) → ltb j 4 ≡ u → channel j (get_or (made m vs).ends k clear) ≡ 0
        go true d true u = ap (channel j) (made_end vs k (ltb-true k places d)) ∙ channel_by (value_at m vs k) j (ltb-true j 4 u) ∙ e
        go true d false u = channel_past _ j (ltb-false j 4 u)
        go false d u v =
            ap (channel j) (get_or-eq_default (map (λ (k : ℕ). colour_by (value_at m vs k)) (up_from 0 places)) clear {n = k} (ltb-false k places d)) ∙ channel-clear j

    clean : Clean m (made m vs)
    clean = record { alpha = λ k j h. made_none k j (value-alpha vs k j h); later = λ k j h. made_none k j (value_late vs k j h) }

    partition-fits : get_or vs 1 0 < 2 ^ m.partition_bits
    unfolding widths
    partition-fits = fits 1

    pub made_formed : WellFormed m (made m vs)
    unfolding made
    made_formed =
        record {
          within = record {
            partition = partition-fits;
            room = refl;
            channels = λ k hk j hj.
                subst (λ (v : ℕ). v < 2 ^ m.channel_bits) (sym (made-channel vs j k hj hk))
                (rw (channel_width part (j * endpoints m + k) (place_lt j k hj hk)) at (fits (2 + (j * endpoints m + k))));
            p = rw (bits_width part) at (fits (2 + stores m));
            sixteen = rw (length-drop (3 + stores m) vs) (omega arith);
            indices = λ i h. rw (own, get_or-drop (3 + stores m) vs i 0) (rw (width_at part i h) at (fits (3 + stores m + i)));
          };
          clean = clean;
        }
