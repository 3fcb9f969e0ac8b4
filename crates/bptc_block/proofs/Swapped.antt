-- Subsets swapped: no pixel's colour changes, the fields stay in range, and swapping twice is swapping once.
use Prim.Native.Nat.{ℕ, suc, ◌+◌, ◌-◌, ◌*◌, ◌/◌, ◌^◌, ◌≤◌, ◌<◌}
use native.Mathlib.Omega.{arith}
use mathlib.Core.Path.{◌≡◌, refl, sym, ap, ap₂, ◌∙◌, subst}
use mathlib.Core.Bool.{Bool, true, false}
use mathlib.Core.List.{List, map, ◌++◌}
use lib.Arith.{sub-sub_self}
use lib.Dec.{ltb}
use lib.ListN.{length, get_or, drop, replicate, length-map, length-append, length-drop, get_or-replicate, get_or-eq_default}
use lib.Seq.{get_or-append-add, get_or-drop, ext_get_or}
use borrow.Author.Tests.{ltb-true, ltb-false}
use Rattle.lists.specs.Tests.{pick}
use Rattle.lists.specs.Rows.{up_from, written}
use Rattle.lists.proofs.Tests.{pick_elim}
use Rattle.lists.proofs.Rows.{length-up_from, get_or-each, each_same, listed, written_at, written_same}
use Rattle.bptc.proofs.Palettes.{shade_mirror}
use Rattle.bptc.specs.Colour.{Rgba}
use Rattle.bptc_block.specs.Fields.{BlockFields, places}
use Rattle.bptc.specs.Mode.{Mode, endpoints, p_bits, largest}
use Rattle.bptc.specs.Partition.{subset_in}
use Rattle.bptc.specs.Colour.{channel, clear, stored}
use Rattle.bptc.specs.Shown.{own, joined_own, own_bit, end_by, end_shown}
use Rattle.bptc.specs.Palette.{shade, end_of, palette_of, palette_at}
use Rattle.bptc_block.specs.Fields.{Plain, Clean}
use Rattle.bptc_block.specs.Chapter.{colour_at}
use Rattle.bptc_block.specs.Exchange.{swapped_own, swapped_place, swapped_index, swapped_by}
use Rattle.bptc.proofs.Colours.{colour-same, stored_in_lem, stored_out, stored_still, stored_twice, end_stored}
use Rattle.bptc_block.proofs.Modes.{Lawful, subset-below}
use Rattle.bptc_block.proofs.Widths.{channel-clear}
use Rattle.bptc_block.proofs.OwnBits.{own_lt, own-joined, joined_lt, joined-own, joined_same, swapped_lt, swapped_bit, either, swapped_twice, swapped-not}

written_past : (f : ℕ → Rgba) (n k : ℕ) → n ≤ k → get_or (written f n (replicate places clear)) k clear ≡ clear
unfolding written
written_past f n k h =
    let ms : List Rgba = map f (up_from 0 n) in
    let l : length ms ≡ n = length-map (up_from 0 n) f ∙ length-up_from n 0 in
    let e : k ≡ length ms + (k - n) = omega (arith, l) in
    ap (λ (i : ℕ). get_or (ms ++ drop n (replicate places clear)) i clear) e
    ∙ get_or-append-add ms (drop n (replicate places clear)) (k - n) clear
    ∙ get_or-drop n (replicate places clear) (k - n) clear
    ∙ none (n + (k - n))
  where
    none : (i : ℕ) → get_or (replicate places clear) i clear ≡ clear
    none i = go (ltb i places) refl
      where
        go : (t : Bool) → ltb i places ≡ t → get_or (replicate places clear) i clear ≡ clear
        go true e = get_or-replicate places i clear clear (ltb-true i places e)
        go false e = get_or-eq_default (replicate places clear) clear {n = i} (ltb-false i places e)

-- where an endpoint comes from
pub place_of : (t : Bool) (s h : ℕ) → h < 2 → swapped_place t (2 * s + h) ≡ 2 * s + pick t (1 - h) h
place_of true s h l = omega arith
place_of false s h l = refl

place_twice : (t u : Bool) (k : ℕ) → swapped_place t (swapped_place u k) ≡ swapped_place (either t u) k
place_twice true true k = omega arith
place_twice true false k = refl
place_twice false u k = refl

-- within its subset
pub place_half : (t : Bool) (k : ℕ) → swapped_place t k / 2 ≡ k / 2
place_half true k = omega arith
place_half false k = refl

index_twice : (m : Mode) (x : ℕ) → x ≤ largest m → (t u : Bool) → swapped_index m u (swapped_index m t x) ≡ swapped_index m (either t u) x
index_twice m x h true true = sub-sub_self h
index_twice m x h true false = refl
index_twice m x h false u = refl

module _ (m : Mode) (t : ℕ → Bool) (f : BlockFields) where
  -- an endpoint
  pub swapped_end : (k : ℕ) → k < endpoints m → get_or (swapped_by m t f).ends k clear ≡ stored m (get_or f.ends (swapped_place (t (k / 2)) k) clear)
  unfolding swapped_by
  swapped_end k h = written_at clear (λ (k : ℕ). stored m (get_or f.ends (swapped_place (t (k / 2)) k) clear)) (replicate places clear) (endpoints m) k h

  swapped_past : (k : ℕ) → endpoints m ≤ k → get_or (swapped_by m t f).ends k clear ≡ clear
  unfolding swapped_by
  swapped_past k h = written_past _ (endpoints m) k h

  -- the endpoints of a subset
  pub swapped_pair : (s h : ℕ) → s < m.subsets → h < 2 → end_of (swapped_by m t f).ends s h ≡ stored m (end_of f.ends s (pick (t s) (1 - h) h))
  swapped_pair s h l k =
      let half : (2 * s + h) / 2 ≡ s = omega arith in
      swapped_end (2 * s + h) (omega arith)
      ∙ ap (λ (i : ℕ). stored m (get_or f.ends i clear)) (ap (λ (i : ℕ). swapped_place (t i) (2 * s + h)) half ∙ place_of (t s) s h k)

  -- its own p-bits
  pub swapped-own : (s : ℕ) → s < m.subsets → own m (swapped_by m t f).p s ≡ swapped_own m (t s) (own m f.p s)
  unfolding swapped_by
  swapped-own s h = own-joined m (λ (s : ℕ). swapped_own m (t s) (own m f.p s)) (λ s l. swapped_lt m (own m f.p s) (own_lt m f.p s) (t s)) s h

  -- an index
  pub swapped-index : (i : ℕ) → i < 16 → get_or (swapped_by m t f).indices i 0 ≡ swapped_index m (t (subset_in m f.partition i)) (get_or f.indices i 0)
  unfolding swapped_by
  swapped-index = get_or-each 0 (λ (i : ℕ). swapped_index m (t (subset_in m f.partition i)) (get_or f.indices i 0)) 16

  -- an endpoint takes its p-bit along
  pub swapped_pbit : (s h : ℕ) → s < m.subsets → h < 2 → own_bit m.own_bits (own m (swapped_by m t f).p s) h ≡ own_bit m.own_bits (own m f.p s) (pick (t s) (1 - h) h)
  swapped_pbit s h l k = ap (λ (q : ℕ). own_bit m.own_bits q h) (swapped-own s l) ∙ swapped_bit m (own m f.p s) (own_lt m f.p s) (t s) h k

  module _ (law : Lawful m) where
    -- and shows what it showed
    pub swapped-shown : (s h : ℕ) → s < m.subsets → h < 2 →
        end_shown m (own m (swapped_by m t f).p s) h (end_of (swapped_by m t f).ends s h)
        ≡ end_shown m (own m f.p s) (pick (t s) (1 - h) h) (end_of f.ends s (pick (t s) (1 - h) h))
    swapped-shown s h l k =
        ap₂ (end_by m) (swapped_pbit s h l k) (swapped_pair s h l k) ∙ end_stored m _ _ law.shades.seen

    swapped_palette : (s x : ℕ) → s < m.subsets → x ≤ largest m →
        palette_at m (swapped_by m t f).ends (swapped_by m t f).p s (swapped_index m (t s) x) ≡ palette_at m f.ends f.p s x
    unfolding palette_of
    swapped_palette s x l h = go (t s) refl
      where
        -- what endpoint h shows
        shows : ℕ → Rgba
        shows h = end_shown m (own m f.p s) h (end_of f.ends s h)

        -- and after swapping
        after : ℕ → Rgba
        after h = end_shown m (own m (swapped_by m t f).p s) h (end_of (swapped_by m t f).ends s h)

        at : (h : ℕ) → h < 2 → (u : Bool) → t s ≡ u → after h ≡ shows (pick u (1 - h) h)
        at h k u e = swapped-shown s h l k ∙ ap (λ (u : Bool). shows (pick u (1 - h) h)) e

        go : (u : Bool) → t s ≡ u → shade m (after 0) (after 1) (swapped_index m u x) ≡ shade m (shows 0) (shows 1) x
        go true e = ap₂ (λ (a b : Rgba). shade m a b (largest m - x)) (at 0 (omega arith) true e) (at 1 (omega arith) true e) ∙ shade_mirror m law.shades (shows 0) (shows 1) x h
        go false e = ap₂ (λ (a b : Rgba). shade m a b x) (at 0 (omega arith) false e) (at 1 (omega arith) false e)

    -- so no pixel changes its colour
    pub swapped-colour : (i : ℕ) → i < 16 → get_or f.indices i 0 ≤ largest m → colour_at m (swapped_by m t f) i ≡ colour_at m f i
    unfolding colour_at swapped_by
    swapped-colour i h le =
        let s : ℕ = subset_in m f.partition i in
        ap (λ (n : ℕ). palette_at m (swapped_by m t f).ends (swapped_by m t f).p s n) (swapped-index i h)
        ∙ swapped_palette s (get_or f.indices i 0) (subset-below m law f.partition i) le

    -- what the mode does not look at is 0
    pub swapped-clean : Clean m (swapped_by m t f)
    swapped-clean = record { alpha = alpha; later = λ k j h. ap (channel j) (swapped_past k h) ∙ channel-clear j }
      where
        alpha : (k j : ℕ) → m.channels ≤ j → channel j (get_or (swapped_by m t f).ends k clear) ≡ 0
        alpha k j h = go (ltb k (endpoints m)) refl
          where
            go : (u : Bool) → ltb k (endpoints m) ≡ u → channel j (get_or (swapped_by m t f).ends k clear) ≡ 0
            go true e = ap (channel j) (swapped_end k (ltb-true k _ e)) ∙ stored_out m _ j h
            go false e = ap (channel j) (swapped_past k (ltb-false k _ e)) ∙ channel-clear j

    length-ends : length (swapped_by m t f).ends ≡ places
    unfolding swapped_by written
    length-ends = simp (length-append, length-map, length-up_from, length-drop) (omega (arith, law.few))

    place-below : (k : ℕ) → k < endpoints m → swapped_place (t (k / 2)) k < endpoints m
    place-below k h = pick_elim (λ (n : ℕ). n < endpoints m) (t (k / 2)) (λ u. omega arith) (λ u. h)

    swapped-partition : f.partition < 2 ^ m.partition_bits → (swapped_by m t f).partition < 2 ^ m.partition_bits
    unfolding swapped_by
    swapped-partition h = h

    swapped-fits : (swapped_by m t f).p < 2 ^ p_bits m
    unfolding swapped_by
    swapped-fits = joined_lt m (λ (s : ℕ). swapped_own m (t s) (own m f.p s)) (λ s l. swapped_lt m (own m f.p s) (own_lt m f.p s) (t s))

    swapped-sixteen : length (swapped_by m t f).indices ≡ 16
    unfolding swapped_by
    swapped-sixteen = refl

    -- the fields stay in range
    pub swapped_plain : Plain m f → Plain m (swapped_by m t f)
    swapped_plain plain =
        record {
          partition = swapped-partition plain.partition;
          room = length-ends;
          channels = λ k h j l.
              subst (λ (n : ℕ). n < 2 ^ m.channel_bits) (sym (ap (channel j) (swapped_end k h) ∙ stored_in_lem m _ law.shades.seen j l)) (plain.channels (swapped_place (t (k / 2)) k) (place-below k h) j l);
          p = swapped-fits;
          sixteen = swapped-sixteen;
          indices = λ i h.
              subst (λ (n : ℕ). n < suc (largest m)) (sym (swapped-index i h))
              (pick_elim (λ (n : ℕ). n < suc (largest m)) (t (subset_in m f.partition i)) (λ u. omega arith) (λ u. plain.indices i h));
        }

-- swapping no subset leaves fields that a block can hold, but for their indices
pub swapped_none : (m : Mode) (law : Lawful m) (t : ℕ → Bool) (f : BlockFields) → Plain m f → Clean m f → ((s : ℕ) → s < m.subsets → t s ≡ false) → swapped_by m t f ≡ f
unfolding swapped_by
swapped_none m law t f plain clean none =
    let ends : (swapped_by m t f).ends ≡ f.ends = ext_get_or clear (swapped_by m t f).ends f.ends (length-ends m t f law ∙ sym plain.room) (λ k h. each k (ltb k (endpoints m)) refl) in
    let ps : joined_own m (λ (s : ℕ). swapped_own m (t s) (own m f.p s)) ≡ f.p =
    joined_same m _ (own m f.p) (λ s h. ap (λ (u : Bool). swapped_own m u (own m f.p s)) (none s h) ∙ swapped-not m (own m f.p s)) ∙ joined-own m f.p plain.p in
    let is : map (λ (i : ℕ). swapped_index m (t (subset_in m f.partition i)) (get_or f.indices i 0)) (up_from 0 16) ≡ f.indices =
    each_same 0 _ (λ (i : ℕ). get_or f.indices i 0) 16 (λ i h. ap (λ (u : Bool). swapped_index m u (get_or f.indices i 0)) (none _ (subset-below m law f.partition i))) ∙ listed 0 f.indices 16 plain.sixteen in
    λ i. record { partition = f.partition; ends = ends i; p = ps i; indices = is i }
  where
    each : (k : ℕ) (u : Bool) → ltb k (endpoints m) ≡ u → get_or (swapped_by m t f).ends k clear ≡ get_or f.ends k clear
    each k true e =
        let h : k < endpoints m = ltb-true k _ e in
        let half : k / 2 < m.subsets = omega arith in
        swapped_end m t f k h
        ∙ ap (λ (u : Bool). stored m (get_or f.ends (swapped_place u k) clear)) (none (k / 2) half)
        ∙ stored_still m (get_or f.ends k clear) law.shades.seen (clean.alpha k)
    each k false e =
        let h : endpoints m ≤ k = ltb-false k _ e in
        swapped_past m t f k h ∙ colour-same clear (get_or f.ends k clear) (λ j l. channel-clear j ∙ sym (clean.later k j h))

-- the same subsets swapped
pub swapped_same : (m : Mode) (law : Lawful m) (t u : ℕ → Bool) (f : BlockFields) → ((s : ℕ) → s < m.subsets → t s ≡ u s) → swapped_by m t f ≡ swapped_by m u f
unfolding swapped_by
swapped_same m law t u f same =
    let ends : (swapped_by m t f).ends ≡ (swapped_by m u f).ends =
    written_same clear _ _ (replicate places clear) (endpoints m)
    (λ k h. let half : k / 2 < m.subsets = omega arith in ap (λ (v : Bool). stored m (get_or f.ends (swapped_place v k) clear)) (same (k / 2) half)) in
    let ps : (swapped_by m t f).p ≡ (swapped_by m u f).p = joined_same m _ _ (λ s h. ap (λ (v : Bool). swapped_own m v (own m f.p s)) (same s h)) in
    let is : (swapped_by m t f).indices ≡ (swapped_by m u f).indices =
    each_same 0 _ _ 16 (λ i h. ap (λ (v : Bool). swapped_index m v (get_or f.indices i 0)) (same _ (subset-below m law f.partition i))) in
    λ i. record { partition = f.partition; ends = ends i; p = ps i; indices = is i }

-- some swapped, and then some of these back and others
pub swapped-again : (m : Mode) (law : Lawful m) (t u : ℕ → Bool) (f : BlockFields) → Plain m f → swapped_by m u (swapped_by m t f) ≡ swapped_by m (λ (s : ℕ). either (t s) (u s)) f
unfolding swapped_by
swapped-again m law t u f plain =
    let g : BlockFields = swapped_by m t f in
    let ends : (swapped_by m u g).ends ≡ (swapped_by m (λ (s : ℕ). either (t s) (u s)) f).ends = written_same clear _ _ (replicate places clear) (endpoints m) end in
    let ps : (swapped_by m u g).p ≡ (swapped_by m (λ (s : ℕ). either (t s) (u s)) f).p =
    joined_same m _ _ (λ s h. ap (swapped_own m (u s)) (swapped-own m t f s h) ∙ swapped_twice m (own m f.p s) (own_lt m f.p s) (t s) (u s)) in
    let is : (swapped_by m u g).indices ≡ (swapped_by m (λ (s : ℕ). either (t s) (u s)) f).indices =
    each_same 0 _ _ 16 (λ i h. ap (swapped_index m (u (subset_in m f.partition i))) (swapped-index m t f i h) ∙ index_twice m (get_or f.indices i 0) (omega (arith, plain.indices i h)) (t _) (u _)) in
    λ i. record { partition = f.partition; ends = ends i; p = ps i; indices = is i }
  where
    end : (k : ℕ) → k < endpoints m → stored m (get_or (swapped_by m t f).ends (swapped_place (u (k / 2)) k) clear) ≡ stored m (get_or f.ends (swapped_place (either (t (k / 2)) (u (k / 2))) k) clear)
    end k h =
        let j : ℕ = swapped_place (u (k / 2)) k in
        ap (stored m) (swapped_end m t f j (place-below m u f law k h))
        ∙ stored_twice m _ law.shades.seen
        ∙ ap (λ (i : ℕ). stored m (get_or f.ends i clear)) (ap (λ (i : ℕ). swapped_place (t i) j) (place_half (u (k / 2)) k) ∙ place_twice (t (k / 2)) (u (k / 2)) k)
