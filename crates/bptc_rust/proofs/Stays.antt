-- No sum, product or cast of the Rust's colours and errors leaves its type, so its `+` and `*` are those of the naturals.
-- `interpolated` in bptc's Shading says it of interpolate_rgb.
use Prim.Native.Nat.{ℕ, ◌+◌, ◌*◌, ◌^◌, ◌≤◌, ◌<◌}
use native.Mathlib.Omega.{arith}
use mathlib.Core.Path.{◌≡◌, refl, sym, ap, subst, ◌∙◌}
use mathlib.Core.List.{List}
use lib.Dec.{eqb, leb, leb→le}
use lib.ListN.{get_or, length, replicate}
use Rattle.lists.specs.Bytes.{Bytes}
use Rattle.lists.proofs.Tests.{pick_elim}
use Rattle.lists.proofs.Tables.{tested}
use Rattle.lists.proofs.Sums.{pixels_most}
use Rattle.bptc.specs.declared.Rgb.{Rgb}
use Rattle.bptc.specs.Mode.{Mode, endpoints, largest}
use Rattle.bptc.specs.Partition.{subset_of}
use Rattle.bptc.specs.Colour.{Rgba, clear, channel, squared_distance}
use Rattle.bptc.specs.Palette.{end_of, palette_of, nearest}
use Rattle.bptc.specs.Internal.Colour.{Below}
use Rattle.bptc.proofs.ColourBounds.{dist_byte}
use Rattle.bptc.proofs.Modes.{Shades}
use Rattle.bptc.proofs.NearestIndex.{small_by}
use Rattle.bptc.proofs.Palettes.{end_byte, shade_byte}
use Rattle.bptc.proofs.Pixels.{Shown, squared_byte}
use Rattle.bptc_block.specs.declared.Candidate.{Candidate}
use Rattle.bptc_block.specs.Finish.{nearest_apart, error_in}
use Rattle.bptc_block.specs.FinishCall.{finish_of}
use Rattle.bptc_block.specs.Limits.{CandidateInRange}
use Rattle.bptc.proofs.Colours.{without-length}
use Rattle.bptc_block.proofs.Promise.{finish-keeps}
use Rattle.bptc_rust.specs.Colour.{rust_dist_sq}
use Rattle.bptc_rust.specs.Palette.{WEIGHTS-2, WEIGHTS-3}
use Rattle.bptc_rust.specs.Demand2.{rust_of}
use Rattle.bptc_rust.proofs.BestOf.{dist_same}
use Rattle.bptc_rust.proofs.Demand2.{demand2}

-- 256 - weight, in u16
pub weights_2 : (i : ℕ) → i < 4 → get_or WEIGHTS-2 i 0 ≤ 256
weights_2 i h = leb→le _ _ (tested (λ (i : ℕ). leb (get_or WEIGHTS-2 i 0) 256) 4 tt i h)

-- at indexes of three bits
pub weights_3 : (i : ℕ) → i < 8 → get_or WEIGHTS-3 i 0 ≤ 256
weights_3 i h = leb→le _ _ (tested (λ (i : ℕ). leb (get_or WEIGHTS-3 i 0) 256) 8 tt i h)

-- dist_sq, in i32
pub squared : (c d : Rgb) → Below 256 c → Below 256 d → rust_dist_sq c d < 2 ^ 31
squared c d h k = omega (arith, dist_same c d, dist_byte c d h k)

-- the error of one subset, whatever p-bits are tried, in u32
pub tried_most : (m : Mode) → Shades m → (part : ℕ) (ends cs : List Rgba) (s q : ℕ) → s < m.subsets → q < 2 ^ m.own_bits →
    ((k : ℕ) → k < endpoints m → (j : ℕ) → j < m.channels → channel j (get_or ends k clear) < 2 ^ m.channel_bits) →
    ((i : ℕ) → i < 16 → Shown (get_or cs i clear)) → error_in squared_distance m part ends cs s q ≤ 3121200
unfolding error_in nearest_apart palette_of
tried_most m shades part ends cs s q inside small stored bytes =
    let a : Rgba = end_of ends s 0 in
    let b : Rgba = end_of ends s 1 in
    pixels_most _ 195075
    (λ i h.
    pick_elim (λ (n : ℕ). n ≤ 195075) (eqb (subset_of m.subsets part i) s)
    (λ t.
    squared_byte _ _ (bytes i h)
    (shade_byte m shades _ _ (nearest squared_distance m a b q (get_or cs i clear)) (small_by squared_distance (palette_of m a b q) (largest m) (get_or cs i clear))
    (end_byte m shades q 0 a small (stored (2 * s + 0) (omega arith)))
    (end_byte m shades q 1 b small (stored (2 * s + 1) (omega arith)))))
    (λ t. omega arith))

-- the errors of both subsets together, in u32
pub summed : (px : List ℕ) (c : Candidate) → Bytes px → length px ≡ 48 → CandidateInRange c → (rust_of px c).error ≤ 3121200
summed px c bytes long range =
    let part : List ℕ = replicate 16 0 in
    let answer : finish_of px c part ≡ record { refusal = 0; error = (rust_of px c).error } = (demand2 px c part bytes long range refl).0 in
    let keeps = finish-keeps px c part (sym (without-length c.ends) ∙ range.1.room) (ap (λ r. r.refusal) answer) in
    subst (λ (e : ℕ). e ≤ 3121200) (ap (λ r. r.error) answer) (keeps.bound bytes)
