-- The checks of the calls, by their tests, are the list of refusals in plain numbers.
use Prim.Native.Nat.{ℕ, ◌^◌}
use mathlib.Core.Path.{◌≡◌, refl, sym}
use mathlib.Core.Bool.{Bool, true, false, true≢false}
use mathlib.Core.List.{List}
use lib.Dec.{eqb, ltb}
use lib.ListN.{get_or, length}
use borrow.Author.Tests.{eqb-true, eq-eqb, ltb-true, lt-ltb}
use Rattle.bptc.specs.Mode.{Mode, mode_numbered, p_bits}
use Rattle.bptc.specs.Colour.{Rgba, without_alpha}
use Rattle.bptc_block.specs.declared.Candidate.{Candidate}
use Rattle.bptc_block.specs.Fields.{channel_values}
use Rattle.bptc_block.specs.Packed.{mode_of}
use Rattle.bptc_block.specs.Refusal.{unless, is_mode, below, p_below, check_pixels, check_block, check_rgba, check_candidate, check_indices, check_readable}
use Rattle.bptc_block.specs.Checks.{Check, passes, declines, PixelsChecked, BlockChecked, CandidateChecked, IndicesChecked, ReadableChecked}
use Rattle.bptc_block.proofs.Modes.{lawful}
use Rattle.bptc_block.proofs.Refusals.{Known, one_or_three, is_mode_lem, row-known, all-below, below_all, bits_in_lem, in_bits, channels_in, in_channels}
use Rattle.bptc_block.proofs.Readable.{says_known, known_says}

-- a check by its test, which says what passes
check : (Passes : Type 0) (Later : ℕ → Type 0) (t : Bool) (k rest : ℕ) → (t ≡ true → Passes) → (Passes → t ≡ true) → (Passes → Later rest) →
    Check k Passes Later (unless t k rest)
check Passes Later true k rest says back later = passes (says refl) (later (says refl))
check Passes Later false k rest says back later = declines (λ p. true≢false (sym (back p))) refl

module _ (Later : ℕ → Type 0) (rest : ℕ) where
  -- 1
  pub pixels-checked : (px : List ℕ) → Later rest → PixelsChecked px Later (check_pixels (length px) rest)
  pixels-checked px later = check _ Later (eqb (length px) 48) 1 rest (eqb-true (length px) 48) (eq-eqb (length px) 48) (λ h. later)

  -- 2
  pub block-checked : (block : List ℕ) → Later rest → BlockChecked block Later (check_block (length block) rest)
  block-checked block later = check _ Later (eqb (length block) 16) 2 rest (eqb-true (length block) 16) (eq-eqb (length block) 16) (λ h. later)

  -- 3 to 6
  pub candidate-checked : (c : Candidate) → (Known c.mode → Later rest) → CandidateChecked c Later (check_candidate c rest)
  unfolding check_rgba
  candidate-checked c later =
      let m : Mode = mode_numbered c.mode in
      let ends : List Rgba = without_alpha c.ends in
      check _ _ (is_mode c.mode) 3 _ (one_or_three c.mode) (is_mode_lem c.mode)
      (λ known.
      rw (row-known c.mode known)
      (check _ _ (ltb c.partition (2 ^ m.partition_bits)) 4 _ (ltb-true c.partition _) (lt-ltb c.partition _)
      (λ part.
      check _ _ (below (2 ^ m.channel_bits) (channel_values m ends)) 5 _ (channels_in m (lawful c.mode) ends) (in_channels m (lawful c.mode) ends)
      (λ inside. check _ Later (p_below (2 ^ p_bits m) c.p) 6 rest (bits_in_lem (2 ^ p_bits m) c.p) (in_bits (2 ^ p_bits m) c.p) (λ p. later known)))))

  -- 7, of a known mode
  pub indices-checked : (mode : ℕ) → Known mode → (is : List ℕ) → Later rest → IndicesChecked mode is Later (check_indices mode is rest)
  indices-checked mode known is later =
      let top : ℕ = 2 ^ (mode_numbered mode).index_bits in
      rw (row-known mode known) (check _ Later (below top is) 7 rest (all-below top is) (below_all top is) (λ h. later))

  -- 8 and 9
  pub readable_checked : (block : List ℕ) → Later rest → ReadableChecked block Later (check_readable block rest)
  readable_checked block later =
      check _ _ (ltb 0 (get_or block 0 0)) 8 _ (ltb-true 0 (get_or block 0 0)) (lt-ltb 0 (get_or block 0 0))
      (λ some.
      check _ Later (is_mode (mode_of block)) 9 rest
      (λ t. known_says block (one_or_three (mode_of block) t)) (λ h. is_mode_lem (mode_of block) (says_known block h)) (λ h. later))
