-- Laws of a block's distance: it is that of the colours, at most 3,121,200, and 0 exactly when every pixel equals the block's colour there.
use Prim.Native.Nat.{ℕ, ◌+◌, ◌*◌, ◌≤◌, ◌<◌}
use native.Mathlib.Omega.{arith}
use mathlib.Core.Path.{◌≡◌, refl, sym, ap, ap₂, ◌∙◌}
use mathlib.Core.Bool.{Bool, true, false}
use mathlib.Core.List.{List, map}
use lib.Dec.{eqb}
use lib.ListN.{length, get_or}
use borrow.Author.Tests.{eqb-true, eqb-false}
use Rattle.lists.specs.Rows.{up_from, sum, over_pixels}
use Rattle.lists.proofs.Rows.{get_or-each, get_or-map}
use Rattle.lists.proofs.Sums.{pixels-same, pixels-zero, pixels-none, pixels_most}
use Rattle.bptc.specs.declared.Rgb.{Rgb}
use Rattle.bptc.specs.Mode.{Mode, mode_numbered}
use Rattle.bptc.specs.Partition.{subset_in}
use Rattle.bptc.specs.Colour.{Rgba, clear, channel, pixel_in, pixels_of, sq_diff, squared_distance}
use Rattle.bptc.specs.Shown.{own}
use Rattle.bptc.specs.Palette.{end_of, palette_of}
use Rattle.bptc.specs.Internal.Colour.{black, colours_of, dist_sq}
use Rattle.bptc.proofs.Pixels.{Shown, squared_zero, squared_self, squared_byte}
use Rattle.bptc.proofs.Palettes.{end_byte, shade_byte}
use Rattle.bptc.proofs.Opaque.{opaque, pixels_opaque, dist_opaque}
use Rattle.bptc_block.specs.Fields.{BlockFields, Plain}
use Rattle.bptc_block.specs.Packed.{mode_of, fields_of}
use Rattle.bptc_block.specs.Chapter.{colour_at, colours, apart_at, apart, block_apart, distance}
use Rattle.bptc_block.specs.ReadCall.{read_refusal, read_of, read_into}
use Rattle.bptc_block.specs.MeasureCall.{measure_of}
use Rattle.bptc_block.specs.RoundTrip.{plain_pixel, pixels_apart, MeasuredSum, SameColours, MeasuredZero, MeasuredAsRead}
use Rattle.bptc_block.proofs.Modes.{Lawful, lawful, subset-below}
use Rattle.bptc_block.proofs.OwnBits.{own_lt}
use Rattle.bptc_block.proofs.Widths.{plain_of}
use Rattle.bptc_block.proofs.Packed.{well_formed}
use Rattle.bptc_block.proofs.Refusals.{Known}
use Rattle.bptc_block.proofs.ReadCall.{readable, read_number, read_leaves, read-pixels, read_again, measure-answer, measure-declined}
use Rattle.bptc_block.proofs.RoundTrip.{plain_same, block_says, three_channels, colour_opaque, shown_pixel}

-- the distance of fields from 48 bytes, by sixteen colours of three channels that are theirs
pub apart-colours : (m : Mode) (f : BlockFields) (px : List ℕ) (cs : List Rgb) → length px ≡ 48 → length cs ≡ 16 → map opaque cs ≡ colours m f →
    apart squared_distance m (pixels_of 3 px) f ≡ over_pixels (λ (i : ℕ). dist_sq (get_or (colours_of px) i black) (get_or cs i black))
unfolding apart apart_at colours
apart-colours m f px cs long sixteen e =
    pixels-same _ _
    (λ i h.
    let shown : colour_at m f i ≡ opaque (get_or cs i black) =
    sym (get_or-each clear (colour_at m f) 16 i h) ∙ ap (λ (xs : List Rgba). get_or xs i clear) (sym e) ∙ get_or-map clear black opaque cs i (omega arith) in
    ap₂ squared_distance (pixels_opaque px long i h) shown ∙ dist_opaque 255 255 (get_or (colours_of px) i black) (get_or cs i black))

-- every colour of fields in range has bytes for channels
colour_byte : (m : Mode) → Lawful m → (f : BlockFields) → Plain m f → (i : ℕ) → i < 16 → Shown (colour_at m f i)
unfolding colour_at palette_of
colour_byte m law f plain i h =
    let s : ℕ = subset_in m f.partition i in
    let below : s < m.subsets = subset-below m law f.partition i in
    shade_byte m law.shades _ _ (get_or f.indices i 0) (omega (arith, plain.indices i h))
    (end_byte m law.shades (own m f.p s) 0 (end_of f.ends s 0) (own_lt m f.p s) (plain.channels (2 * s + 0) (omega arith)))
    (end_byte m law.shades (own m f.p s) 1 (end_of f.ends s 1) (own_lt m f.p s) (plain.channels (2 * s + 1) (omega arith)))

-- the greatest distance, 16 × 195,075
pub apart_small : (m : Mode) → Lawful m → (cs : List Rgba) (f : BlockFields) → Plain m f → ((i : ℕ) → i < 16 → Shown (get_or cs i clear)) → apart squared_distance m cs f ≤ 3121200
unfolding apart apart_at
apart_small m law cs f plain bytes = pixels_most _ 195075 (λ i h. squared_byte _ _ (bytes i h) (colour_byte m law f plain i h))

-- a distance of 0, pixel by pixel
module _ (block px : List ℕ) where
  -- the block's mode
  abbrev m : Mode
  m = mode_numbered (mode_of block)

  -- its fields
  abbrev f : BlockFields
  f = fields_of m block

  plain : Plain m f
  plain = plain_of m f (well_formed m (lawful (mode_of block)) block)

  alpha : (i : ℕ) → i < 16 → (colour_at m f i).a ≡ 255
  unfolding channel
  alpha i h = colour_opaque m (lawful (mode_of block)) (three_channels (mode_of block)) f plain i h 3 (omega arith) (omega arith)

  apart-zero : distance px block ≡ 0 → SameColours (mode_of block) block px
  unfolding block_apart apart apart_at pixels_of
  apart-zero e i h =
      let at : get_or (pixels_of 3 px) i clear ≡ pixel_in 3 px i = get_or-each clear (pixel_in 3 px) 16 i h in
      plain_same px i ∙ squared_zero (pixel_in 3 px i) (colour_at m f i) (sym (alpha i h)) (ap (λ (c : Rgba). squared_distance c (colour_at m f i)) (sym at) ∙ pixels-zero _ e i h)

  zero-apart : SameColours (mode_of block) block px → distance px block ≡ 0
  unfolding block_apart apart apart_at pixels_of
  zero-apart same =
      pixels-none _
      (λ i h. ap (λ (c : Rgba). squared_distance c (colour_at m f i)) (get_or-each clear (pixel_in 3 px) 16 i h ∙ sym (plain_same px i) ∙ same i h) ∙ squared_self _)

-- the call
pub measured-zero : MeasuredZero
measured-zero n block px h pixels =
    let says : mode_of block ≡ n = block_says n block h in
    rw (measure-answer block px (readable block px pixels h.sixteen (rw says h.known)))
    (refl, (rw says at (apart-zero block px), rw says at (zero-apart block px)))

-- the pixels that reading gives have the block's colours
read_same : (block px : List ℕ) → (read_of block px).refusal ≡ 0 → SameColours (mode_of block) block (read_into block px)
read_same block px ok i h =
    plain_same (read_into block px) i
    ∙ rw (read-pixels block px ok)
    (shown_pixel (m block px) (lawful (mode_of block)) (three_channels (mode_of block)) (f block px) (plain block px) i h)

-- the distance of two pixels, by their bytes
apart-bytes : (px other : List ℕ) (i : ℕ) → squared_distance (pixel_in 3 px i) (plain_pixel other i) ≡ pixels_apart px other i
unfolding squared_distance sq_diff
apart-bytes px other i = let e : i * 3 + 0 ≡ i * 3 = omega arith in rw e refl

-- so that a distance is that of the pixels' bytes from those read
read-apart : (block px into : List ℕ) → (read_of block into).refusal ≡ 0 → distance px block ≡ sum (map (pixels_apart px (read_into block into)) (up_from 0 16))
unfolding block_apart apart apart_at over_pixels pixels_of
read-apart block px into ok =
    pixels-same _ (pixels_apart px (read_into block into))
    (λ i h.
    ap₂ squared_distance (get_or-each clear (pixel_in 3 px) 16 i h) (sym (read_same block into ok i h))
    ∙ apart-bytes px (read_into block into) i)

-- and so is the error measured
pub measured-sum : MeasuredSum
measured-sum n block px into h long room =
    let known : Known (mode_of block) = rw (block_says n block h) h.known in
    measure-answer block px (readable block px long h.sixteen known)
    ∙ ap (λ (e : ℕ). record { refusal = 0; error = e }) (read-apart block px into (readable block into room h.sixteen known))

-- measuring against the bytes read gives 0
pub measured-read : MeasuredAsRead
measured-read block px = go (eqb (read_refusal block px) 0) refl
  where
    go : (t : Bool) → eqb (read_refusal block px) 0 ≡ t →
        measure_of block (read_into block px) ≡ record { refusal = read_refusal block px; error = 0 }
    go true e =
        let z : read_refusal block px ≡ 0 = eqb-true (read_refusal block px) 0 e in
        let ok : (read_of block (read_into block px)).refusal ≡ 0 = read_number block (read_into block px) ∙ read_again block px ∙ z in
        let read : (read_of block px).refusal ≡ 0 = read_number block px ∙ z in
        rw (measure-answer block (read_into block px) ok, zero-apart block (read_into block px) (read_same block px read), z)
    go false e =
        let ne : read_refusal block px ≡ 0 → ⊥ = eqb-false (read_refusal block px) 0 e in
        rw (read_leaves block px (λ z. ne (sym (read_number block px) ∙ z))) (measure-declined block px ne)
