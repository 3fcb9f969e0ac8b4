-- Endpoints as one number each, and the candidate that these stand for.
use Prim.Native.Nat.{ℕ, ◌^◌, ◌≤◌, ◌<◌}
use native.Mathlib.Nat.{lt_of_lt_of_le}
use native.Mathlib.Omega.{arith}
use mathlib.Core.Path.{◌≡◌, sym, ap, ◌∙◌}
use mathlib.Core.List.{List, map}
use lib.ListN.{get_or, length}
use lib.Pow.{pow_mono}
use Rattle.lists.specs.Rows.{up_from}
use Rattle.lists.proofs.Rows.{listed}
use Rattle.bptc.specs.declared.Rgb.{Rgb}
use Rattle.bptc.specs.Mode.{Mode, IsMode, mode_numbered}
use Rattle.bptc.specs.Internal.Colour.{black, Below}
use Rattle.bptc.specs.Internal.Shown.{Stored}
use Rattle.bptc.specs.Internal.Pixels.{pixel_word, pixel_of}
use Rattle.bptc.proofs.Modes.{is_mode}
use Rattle.bptc.proofs.Colours.{without-length}
use Rattle.bptc.proofs.ColourBounds.{word-pixel}
use Rattle.bptc_block.specs.declared.Candidate.{Candidate}
use Rattle.bptc_block.specs.Internal.Words.{word_candidate}
use Rattle.bptc_block.proofs.Modes.{lawful_of}
use Rattle.bptc_block.specs.RgbaCandidate.{rgba_candidate}
use Rattle.bptc_block.proofs.Stored.{stored_rgb}
use Rattle.bptc_block.specs.Refusal.{check_candidate}
use Rattle.bptc_block.proofs.Finishing.{Good}
use Rattle.bptc_block.proofs.Refusals.{good}

-- a channel is a byte
pub channel-byte : (m : Mode) → IsMode m → 2 ^ m.channel_bits ≤ 256
channel-byte m known = pow_mono {j = 8} (omega (arith, (lawful_of m known).shades.most))

-- endpoints within a mode's width, each as one number, stand for themselves
module _ (m : Mode) (known : IsMode m) (ends : List Rgb) (four : length ends ≡ 4) (stored : Stored m ends) where
  abbrev end : ℕ → Rgb
  end k = get_or ends k black

  again : (k : ℕ) → k < 4 → pixel_of (pixel_word (end k)) ≡ end k
  again k h =
      let b : Below (2 ^ m.channel_bits) (end k) = stored k h in
      let top : 2 ^ m.channel_bits ≤ 256 = channel-byte m known in
      word-pixel (end k) (record { r = lt_of_lt_of_le b.r top; g = lt_of_lt_of_le b.g top; b = lt_of_lt_of_le b.b top })

  pub words-again : map pixel_of (map pixel_word ends) ≡ ends
  words-again =
      let es : map end (up_from 0 4) ≡ ends = listed black ends 4 four in
      ap (λ (xs : List Rgb). map pixel_of (map pixel_word xs)) (sym es)
      ∙ rw (again 0 (omega arith), again 1 (omega arith), again 2 (omega arith), again 3 (omega arith)) es

-- a candidate that the checks accept is the one that its numbers stand for
pub candidate_again : (c : Candidate) → Good (rgba_candidate c) → length c.ends ≡ 4 → word_candidate (record { mode = c.mode; partition = c.partition; ends = map pixel_word c.ends; p = c.p }) ≡ c
candidate_again c fit four =
    ap (λ (es : List Rgb). record { mode = c.mode; partition = c.partition; ends = es; p = c.p })
    (words-again (mode_numbered c.mode) (is_mode c.mode) c.ends four (stored_rgb (mode_numbered c.mode) (is_mode c.mode) c.ends fit.stored))

-- as its checks say
pub accepted_again : (c : Candidate) → length c.ends ≡ 4 → check_candidate c 0 ≡ 0 →
    word_candidate (record { mode = c.mode; partition = c.partition; ends = map pixel_word c.ends; p = c.p }) ≡ c
accepted_again c four e = candidate_again c (good (rgba_candidate c) 0 (without-length c.ends ∙ four) e).0 four
