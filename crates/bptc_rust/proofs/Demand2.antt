-- Demand 2: a candidate in range is not declined, and the block and the error of `finish` are the Rust's.
use Prim.Native.Nat.{ℕ, ◌^◌, ◌<◌}
use native.Mathlib.Omega.{arith}
use mathlib.Core.Path.{◌≡◌, sym, ap, ◌∙◌}
use mathlib.Core.Logic.{inl, inr}
use mathlib.Core.List.{List, map}
use lib.Dec.{eqb}
use lib.ListN.{length}
use Rattle.lists.specs.Tests.{pick}
use Rattle.lists.specs.Rows.{up_from}
use Rattle.lists.specs.Bytes.{Bytes}
use Rattle.bptc.specs.declared.Rgb.{Rgb}
use Rattle.bptc.specs.Mode.{mode_numbered}
use Rattle.bptc.specs.Colour.{without_alpha, pixels_of, squared_distance}
use Rattle.bptc.specs.Internal.Colour.{colours_of}
use Rattle.bptc.proofs.ColourBounds.{pixels-shown, colours-length}
use Rattle.bptc.proofs.PixelBytes.{pixels_in}
use Rattle.bptc.proofs.Opaque.{pixels_opaque}
use Rattle.bptc_block.specs.declared.PBits.{PBits}
use Rattle.bptc_block.specs.declared.Candidate.{Candidate}
use Rattle.bptc_block.specs.RgbaCandidate.{rgba_candidate}
use Rattle.bptc_block.specs.Fields.{Plain}
use Rattle.bptc_block.specs.Finish.{chosen_fields, finished_by, finish}
use Rattle.bptc_block.specs.FinishCall.{finish_of}
use Rattle.bptc_block.specs.Compressed.{Compressed}
use Rattle.bptc_block.proofs.Stored.{Kept}
use Rattle.bptc_block.proofs.Refusals.{Known, candidate_good, checked}
use Rattle.bptc_block.proofs.Finishing.{Good, fields_plain}
use Rattle.bptc_block.proofs.FinishCall.{finish-declines, finish-answer, finish-block}
use Rattle.bptc_rust.specs.Encode.{compress_mode1, compress_mode3}
use Rattle.bptc_rust.specs.Demand2.{pixel_of_bytes, rust_of, Demand2}
use Rattle.bptc_rust.proofs.Agree.{rust1, rust3}

module _ (px : List ℕ) (long : length px ≡ 48) (bytes : Bytes px) where
  sixteen : length (colours_of px) ≡ 16
  sixteen = omega (arith, colours-length px)

  -- the pixels in three channels
  three_channels : map (pixel_of_bytes px) (up_from 0 16) ≡ colours_of px
  three_channels = pixels_in px long

  either : (n : ℕ) → Known n → (part : ℕ) (ends : List Rgb) (ps : PBits) → part < 2 ^ (mode_numbered n).partition_bits →
      Kept (mode_numbered n) ends →
      Plain (mode_numbered n) (chosen_fields squared_distance (mode_numbered n) part (without_alpha ends) ps (pixels_of 3 px)) →
      finished_by squared_distance (pixels_of 3 px) (record { mode = n; partition = part; ends = without_alpha ends; p = ps })
      ≡ pick (eqb n 1) (compress_mode1 part ends ps (colours_of px)) (compress_mode3 part ends ps (colours_of px))
  unfolding mode_numbered finished_by
  either n (inl e) part ends ps =
      rw e (λ inside kept plain. sym
      (rust1 part ends (colours_of px) (pixels_of 3 px) ps inside sixteen (pixels_opaque px long) (pixels-shown px bytes) kept plain))
  either n (inr e) part ends ps =
      rw e (λ inside kept plain. sym
      (rust3 part ends (colours_of px) (pixels_of 3 px) ps inside sixteen (pixels_opaque px long) (pixels-shown px bytes) kept plain))

  -- finishing with a candidate that no check declines is what the Rust's steps do
  pub finish_rust : (c : Candidate) → Known c.mode → Good (rgba_candidate c) → finish px c ≡ rust_of px c
  unfolding rust_of
  finish_rust c known good =
      rw three_channels (either c.mode known c.partition c.ends c.p good.partition good.stored
      (fields_plain squared_distance (pixels_of 3 px) (rgba_candidate c) good))

-- the call
pub demand2 : Demand2
demand2 px c part bytes long range sixteen =
    let (known, good) = candidate_good c range in
    let ok : (finish_of px c part).refusal ≡ 0 = finish-declines px c part long sixteen ∙ checked (rgba_candidate c) 0 good in
    let same : finish px c ≡ rust_of px c = finish_rust px long bytes c known good in (
      finish-answer px c part ok ∙ ap (λ (k : Compressed). record { refusal = 0; error = k.error }) same,
      finish-block px c part ok
          ∙ ap (λ (k : Compressed). k.block) same,
    )
