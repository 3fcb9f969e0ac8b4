-- What finishing chooses, by any distance: no fields with the same endpoints lie closer, and each subset is finished by itself.
use Prim.Native.Nat.{ℕ, suc, ◌-◌, ◌^◌, ◌≤◌, ◌<◌}
use native.Mathlib.Nat.{le_trans}
use native.Mathlib.Omega.{arith}
use mathlib.Core.Path.{◌≡◌, refl, sym, ap, ap₂, ◌∙◌, subst}
use mathlib.Core.Bool.{Bool, true, false}
use mathlib.Core.Logic.{◌⊎◌, inl, inr}
use mathlib.Core.List.{List, Memᴰ, map}
use lib.Arith.{sub-sub_self}
use lib.Dec.{eqb}
use lib.ListN.{length, get_or}
use borrow.Author.Tests.{eqb-true}
use Rattle.lists.specs.Tests.{pick}
use Rattle.lists.specs.Rows.{up_from, sum, over_pixels}
use Rattle.lists.proofs.Tests.{pick_le}
use Rattle.lists.proofs.Rows.{get_or-each}
use Rattle.lists.proofs.Sums.{pixels-same, pixels_le}
use Rattle.lists.proofs.Least.{least-all, least-keeps}
use Rattle.bptc.specs.Colour.{Rgba}
use Rattle.bptc_block.specs.Fields.{BlockFields, places}
use Rattle.bptc_block.specs.declared.PBits.{PBits}
use Rattle.bptc_block.specs.declared.PBits.TheVariants.{Free, Fixed}
use Rattle.bptc.specs.Mode.{Mode, endpoints, largest}
use Rattle.bptc.specs.Partition.{subset_in, in_subset}
use Rattle.bptc.specs.Colour.{channel, clear, stored}
use Rattle.bptc.specs.Shown.{own, own_bit, end_shown}
use Rattle.bptc.specs.Palette.{shade, end_of, palette_of, palette_at, nearest}
use Rattle.bptc_block.specs.Fields.{Plain}
use Rattle.bptc_block.specs.Chapter.{colour_at, apart_at, apart}
use Rattle.bptc_block.specs.Exchange.{swapped_own}
use Rattle.bptc_block.specs.Finish.{other_bits, nearest_apart, error_in, bits_in, chosen_bits, fields_at, chosen_fields}
use Rattle.bptc_block.specs.Allowed.{SameSubset}
use Rattle.bptc.proofs.Colours.{end_same}
use Rattle.bptc_block.proofs.Modes.{Lawful, subset-below}
use Rattle.bptc_block.proofs.OwnBits.{own_lt, own-joined, joined_lt, swapped_lt, swapped_bit}
use Rattle.bptc.proofs.Palettes.{shade_mirror}
use Rattle.bptc_block.proofs.Split.{pixels-split, subsets_le}
use Rattle.bptc.proofs.NearestIndex.{least_by, small_by}
use Rattle.bptc_block.proofs.Trials.{choices, complete, tried}

-- the part of the distance that lies in subset s
unfoldable pub apart_in : (Rgba → Rgba → ℕ) → Mode → List Rgba → ℕ → BlockFields → ℕ
apart_in distance m cs s f = over_pixels (in_subset m.subsets f.partition s (apart_at distance m cs f))

-- what endpoint h of subset s shows
abbrev shows : Mode → List Rgba → ℕ → ℕ → ℕ → Rgba
shows m ends q s h = end_shown m q h (end_of ends s h)

-- the two ends of subset s show what the endpoints at own p-bits q show, in one order or the other
unfoldable pub Alike : Mode → BlockFields → List Rgba → ℕ → ℕ → Type 0
Alike m f ends q s =
    ((shows m f.ends (own m f.p s) s 0 ≡ shows m ends q s 0) × (shows m f.ends (own m f.p s) s 1 ≡ shows m ends q s 1))
    ⊎ ((shows m f.ends (own m f.p s) s 0 ≡ shows m ends q s 1) × (shows m f.ends (own m f.p s) s 1 ≡ shows m ends q s 0))

-- the distance splits by subsets
pub split : (distance : Rgba → Rgba → ℕ) (m : Mode) → Lawful m → (cs : List Rgba) (f : BlockFields) →
    apart distance m cs f ≡ sum (map (λ (s : ℕ). apart_in distance m cs s f) (up_from 0 m.subsets))
unfolding apart apart_in
split distance m law cs f = pixels-split (apart_at distance m cs f) (subset_in m f.partition) m.subsets (λ i h. subset-below m law f.partition i)

module _ (distance : Rgba → Rgba → ℕ) (m : Mode) (law : Lawful m) (part : ℕ) (ends cs : List Rgba) where
  -- the fields at p-bits
  abbrev at : ℕ → BlockFields
  at p = fields_at distance m part ends cs p

  -- the nearest index of pixel i in subset s
  abbrev near : ℕ → ℕ → ℕ → ℕ
  near q s i = nearest distance m (end_of ends s 0) (end_of ends s 1) q (get_or cs i clear)

  -- each pixel of the fields has its nearest index
  pub at-index : (p i : ℕ) → i < 16 → get_or (at p).indices i 0 ≡ near (own m p (subset_in m part i)) (subset_in m part i) i
  unfolding fields_at
  at-index p i h = get_or-each 0 (λ (i : ℕ). near (own m p (subset_in m part i)) (subset_in m part i) i) 16 i h

  -- and shows its nearest colour
  at-apart : (p i : ℕ) → i < 16 →
      apart_at distance m cs (at p) i ≡ nearest_apart distance m (end_of ends (subset_in m part i) 0) (end_of ends (subset_in m part i) 1) (own m p (subset_in m part i)) (get_or cs i clear)
  unfolding apart_at colour_at fields_at nearest_apart
  at-apart p i h =
      ap (λ (n : ℕ). distance (get_or cs i clear) (palette_at m ends p (subset_in m part i) n)) (at-index p i h)

  -- so the distance in a subset looks at its own p-bits alone
  pub own-error : (p s : ℕ) → apart_in distance m cs s (at p) ≡ error_in distance m part ends cs s (own m p s)
  unfolding apart_in error_in fields_at
  own-error p s = pixels-same _ _ (λ i h. go i h (eqb (subset_in m part i) s) refl)
    where
      -- the distance of pixel i to its nearest colour in a subset
      far : ℕ → ℕ → ℕ
      far t i = nearest_apart distance m (end_of ends t 0) (end_of ends t 1) (own m p t) (get_or cs i clear)

      go : (i : ℕ) → i < 16 → (t : Bool) → eqb (subset_in m part i) s ≡ t → pick t (apart_at distance m cs (at p) i) 0 ≡ pick t (far s i) 0
      go i h true e = at-apart p i h ∙ ap (λ (t : ℕ). far t i) (eqb-true (subset_in m part i) s e)
      go i h false e = refl

  -- a colour of the fields is one of the palette
  alike_least : (f : BlockFields) (q s n : ℕ) (c : Rgba) → Alike m f ends q s → n ≤ largest m →
      nearest_apart distance m (end_of ends s 0) (end_of ends s 1) q c ≤ distance c (palette_at m f.ends f.p s n)
  unfolding Alike nearest_apart palette_of
  alike_least f q s n c (inl e) h =
      subst (λ (d : Rgba). distance c (palette_of m (end_of ends s 0) (end_of ends s 1) q (nearest distance m (end_of ends s 0) (end_of ends s 1) q c)) ≤ distance c d)
      (sym (ap₂ (λ (a b : Rgba). shade m a b n) e.0 e.1))
      (least_by distance (palette_of m (end_of ends s 0) (end_of ends s 1) q) (largest m) c n h)
  alike_least f q s n c (inr e) h =
      let mirrored : shade m (shows m ends q s 1) (shows m ends q s 0) n ≡ shade m (shows m ends q s 0) (shows m ends q s 1) (largest m - n) =
      ap (shade m (shows m ends q s 1) (shows m ends q s 0)) (sym (sub-sub_self h)) ∙ shade_mirror m law.shades (shows m ends q s 0) (shows m ends q s 1) (largest m - n) (omega arith) in
      subst (λ (d : Rgba). distance c (palette_of m (end_of ends s 0) (end_of ends s 1) q (nearest distance m (end_of ends s 0) (end_of ends s 1) q c)) ≤ distance c d)
      (sym (ap₂ (λ (a b : Rgba). shade m a b n) e.0 e.1 ∙ mirrored))
      (least_by distance (palette_of m (end_of ends s 0) (end_of ends s 1) q) (largest m) c (largest m - n) (omega arith))

  pixel-least : (f : BlockFields) (q s : ℕ) → f.partition ≡ part → ((i : ℕ) → i < 16 → get_or f.indices i 0 < suc (largest m)) → Alike m f ends q s → (i : ℕ) → i < 16 → subset_in m part i ≡ s →
      nearest_apart distance m (end_of ends s 0) (end_of ends s 1) q (get_or cs i clear) ≤ apart_at distance m cs f i
  unfolding apart_at colour_at
  pixel-least f q s same small alike i h e = rw (same, e) (alike_least f q s (get_or f.indices i 0) (get_or cs i clear) alike (omega (arith, small i h)))

  -- in a subset no fields with the same two ends lie closer
  pub subset-least : (f : BlockFields) (q s : ℕ) → f.partition ≡ part → ((i : ℕ) → i < 16 → get_or f.indices i 0 < suc (largest m)) → Alike m f ends q s →
      error_in distance m part ends cs s q ≤ apart_in distance m cs s f
  unfolding error_in apart_in
  subset-least f q s same small alike =
      subst (λ (r : ℕ). over_pixels (in_subset m.subsets part s far) ≤ over_pixels (in_subset m.subsets r s (apart_at distance m cs f))) (sym same)
      (pixels_le _ _ (λ i h. pick_le (eqb (subset_in m part i) s) (λ t. pixel-least f q s same small alike i h (eqb-true (subset_in m part i) s t))))
    where
      -- the distance of pixel i to its nearest colour
      far : ℕ → ℕ
      far i = nearest_apart distance m (end_of ends s 0) (end_of ends s 1) q (get_or cs i clear)

  -- the own p-bits that a candidate may get
  abbrev Choice : PBits → ℕ → ℕ → Type 0
  Choice Free s q = Memᴰ q (choices m.own_bits)
  Choice (Fixed p) s q = q ≡ own m p s

  -- those by which a subset is finished are within its bits
  pub bits_lt : (ps : PBits) (s : ℕ) → bits_in distance m part ends ps cs s < 2 ^ m.own_bits
  unfolding bits_in
  bits_lt Free s =
      tried m.own_bits law.shades.narrow _
      (least-keeps (error_in distance m part ends cs s) (λ (q : ℕ). Memᴰ q (choices m.own_bits)) (other_bits m.own_bits) 0 (λ q h. h))
  bits_lt (Fixed p) s = own_lt m p s

  -- and there are none better
  bits-least : (ps : PBits) (s q : ℕ) → Choice ps s q → error_in distance m part ends cs s (bits_in distance m part ends ps cs s) ≤ error_in distance m part ends cs s q
  unfolding bits_in
  bits-least Free s q h = least-all (error_in distance m part ends cs s) (other_bits m.own_bits) 0 h
  bits-least (Fixed p) s q e = omega (arith, ap (error_in distance m part ends cs s) e)

  -- the p-bits of all together are each subset's own
  pub own_bits_lem : (ps : PBits) (s : ℕ) → s < m.subsets → own m (chosen_bits distance m part ends ps cs) s ≡ bits_in distance m part ends ps cs s
  unfolding chosen_bits
  own_bits_lem ps s h = own-joined m (bits_in distance m part ends ps cs) (λ s l. bits_lt ps s) s h

  -- a subset with the candidate's endpoints has the colours of one of its choices
  found : (f : BlockFields) (ps : PBits) (s : ℕ) → SameSubset m f ends ps s → (q : ℕ) × Choice ps s q × Alike m f ends q s
  unfolding Alike
  found f ps s e = go ps e
    where
      -- its own p-bits
      mine : ℕ
      mine = own m f.p s

      same : (q h j : ℕ) → stored m (end_of f.ends s h) ≡ stored m (end_of ends s j) → own_bit m.own_bits mine h ≡ own_bit m.own_bits q j → shows m f.ends mine s h ≡ shows m ends q s j
      same q h j kept bit = end_same m _ _ _ _ law.shades.seen kept bit

      go : (ps : PBits) → SameSubset m f ends ps s → (q : ℕ) × Choice ps s q × Alike m f ends q s
      go Free (inl e) = (mine, complete m.own_bits law.shades.narrow mine (own_lt m f.p s), inl (same mine 0 0 e.0 refl, same mine 1 1 e.1 refl))
      go Free (inr e) =
          let q : ℕ = swapped_own m true mine in
          let bit : (h : ℕ) → h < 2 → own_bit m.own_bits q h ≡ own_bit m.own_bits mine (1 - h) = swapped_bit m mine (own_lt m f.p s) true in
          (q, complete m.own_bits law.shades.narrow q (swapped_lt m mine (own_lt m f.p s) true), inr (same q 0 1 e.0 (sym (bit 1 (omega arith))), same q 1 0 e.1 (sym (bit 0 (omega arith)))))
      go (Fixed p) (inl e) = (own m p s, refl, inl (same (own m p s) 0 0 e.0.0 e.0.1, same (own m p s) 1 1 e.1.0 e.1.1))
      go (Fixed p) (inr e) = (own m p s, refl, inr (same (own m p s) 0 1 e.0.0 e.0.1, same (own m p s) 1 0 e.1.0 e.1.1))

  -- the distance of what was chosen, subset by subset
  pub chosen_error : (ps : PBits) (s : ℕ) → s < m.subsets → apart_in distance m cs s (chosen_fields distance m part ends ps cs) ≡ error_in distance m part ends cs s (bits_in distance m part ends ps cs s)
  unfolding chosen_fields
  chosen_error ps s h = own-error _ s ∙ ap (error_in distance m part ends cs s) (own_bits_lem ps s h)

  -- no fields that the candidate allows lie closer
  pub optimal : (ps : PBits) (f : BlockFields) → f.partition ≡ part → Plain m f → ((s : ℕ) → s < m.subsets → SameSubset m f ends ps s) →
      apart distance m cs (chosen_fields distance m part ends ps cs) ≤ apart distance m cs f
  optimal ps f same plain alike =
      rw (split distance m law cs f, split distance m law cs (chosen_fields distance m part ends ps cs))
      (subsets_le _ _ m.subsets
      (λ s h.
      let (q, c, like) = found f ps s (alike s h) in
      rw (chosen_error ps s h) (le_trans (bits-least ps s q c) (subset-least f q s same plain.indices like))))

  -- what finishing packs is in range
  pub chosen_plain : (ps : PBits) → part < 2 ^ m.partition_bits → length ends ≡ places →
      ((k : ℕ) → k < endpoints m → (j : ℕ) → j < m.channels → channel j (get_or ends k clear) < 2 ^ m.channel_bits) → Plain m (chosen_fields distance m part ends ps cs)
  unfolding chosen_fields fields_at chosen_bits
  chosen_plain ps below six kept =
      record {
        partition = below;
        room = six;
        channels = kept;
        p = joined_lt m (bits_in distance m part ends ps cs) (λ s l. bits_lt ps s);
        sixteen = refl;
        indices = λ i h.
            subst (λ (n : ℕ). n < suc (largest m)) (sym (at-index (chosen_bits distance m part ends ps cs) i h))
            (omega (arith, small_by distance (palette_of m (end_of ends (subset_in m part i) 0) (end_of ends (subset_in m part i) 1) (own m (chosen_bits distance m part ends ps cs) (subset_in m part i))) (largest m) (get_or cs i clear)));
      }
