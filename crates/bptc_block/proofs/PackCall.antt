-- Laws of the call `pack`: what it accepts, what it declines, and what it leaves.
use Prim.Native.Nat.{ℕ, ◌^◌}
use native.Mathlib.Omega.{arith}
use mathlib.Core.Path.{◌≡◌, refl, ◌∙◌}
use mathlib.Core.Bool.{true}
use mathlib.Core.List.{List}
use lib.Dec.{eqb}
use lib.ListN.{length}
use borrow.Author.Tests.{eq-eqb, ne_eqb}
use Rattle.bptc.specs.Mode.{Mode, mode_numbered}
use Rattle.bptc.proofs.Colours.{without-length}
use Rattle.bptc.proofs.Largest.{largest-fits, fits-largest}
use Rattle.bptc_block.specs.declared.Fields.{Fields}
use Rattle.bptc_block.specs.RgbaCandidate.{rgba_candidate}
use Rattle.bptc_block.specs.Fields.{block_fields, Plain}
use Rattle.bptc_block.specs.Packed.{packed}
use Rattle.bptc_block.specs.Exchange.{compressed}
use Rattle.bptc_block.specs.Refusal.{below, check_candidate, check_indices}
use Rattle.bptc_block.specs.Checks.{NotDeclined, BlockChecked, CandidateChecked, IndicesChecked}
use Rattle.bptc_block.specs.PackCall.{fixed_at, pack_of, pack_into}
use Rattle.bptc_block.proofs.Finishing.{Good}
use Rattle.bptc_block.proofs.Refusals.{Known, own-number, passed, all-below, below_all, good, checked}
use Rattle.bptc_block.proofs.Checks.{block-checked, candidate-checked, indices-checked}

module _ (mode : ℕ) (f : Fields) (part : List ℕ) where
  -- the number that it answers, by checks 2 to 7
  pub pack-checked : BlockChecked part (CandidateChecked (fixed_at mode f) (IndicesChecked mode f.indices NotDeclined)) (pack_of mode f part)
  unfolding pack_of
  pack-checked =
      block-checked _ _ part (candidate-checked _ _ (fixed_at mode f) (λ known. indices-checked NotDeclined 0 mode known f.indices refl))

  -- a declined call leaves the part as it was
  pub pack_leaves : (pack_of mode f part ≡ 0 → ⊥) → pack_into mode f part ≡ part
  unfolding pack_into
  pack_leaves ne = rw (ne_eqb (pack_of mode f part) 0 ne)

  module _ (ok : pack_of mode f part ≡ 0) where
    -- the part after a call that is not declined
    pub pack-block : pack_into mode f part ≡ packed (mode_numbered mode) (compressed (mode_numbered mode) (block_fields f))
    unfolding pack_into
    pack-block = rw ok

    checks : check_candidate (fixed_at mode f) (check_indices mode f.indices 0) ≡ 0
    unfolding pack_of
    checks = (passed (eqb (length part) 16) 1 _ ok).1

    -- what such a candidate is
    pub pack_good : length f.ends ≡ 4 → Good (rgba_candidate (fixed_at mode f))
    pack_good four = (good (rgba_candidate (fixed_at mode f)) _ (without-length f.ends ∙ four) checks).0

    -- what it accepts is in range
    pub pack_plain : length f.ends ≡ 4 → length f.indices ≡ 16 → Plain (mode_numbered mode) (block_fields f)
    pack_plain four sixteen =
        let m : Mode = mode_numbered mode in
        let (g, rest) = good (rgba_candidate (fixed_at mode f)) _ (without-length f.ends ∙ four) checks in
        let small : below (2 ^ m.index_bits) f.indices ≡ true = (passed (below (2 ^ m.index_bits) f.indices) 6 0 rest).0 in
        record {
          partition = g.partition;
          room = g.room;
          channels = g.stored;
          p = g.p;
          sixteen = sixteen;
          indices = λ i h. fits-largest m _ (all-below (2 ^ m.index_bits) f.indices small i (omega (arith, sixteen)));
        }

  -- and what is in range it accepts
  pub pack_accepts : length part ≡ 16 → Known mode → Plain (mode_numbered mode) (block_fields f) → pack_of mode f part ≡ 0
  unfolding pack_of
  pack_accepts sixteen known plain =
      let m : Mode = mode_numbered mode in
      let g : Good (rgba_candidate (fixed_at mode f)) =
      record { mode = own-number mode known; partition = plain.partition; room = plain.room; stored = plain.channels; p = plain.p } in
      rw (
        eq-eqb (length part) 16 sixteen,
        checked (rgba_candidate (fixed_at mode f)) (check_indices mode f.indices 0) g,
        below_all (2 ^ m.index_bits) f.indices (λ i h. largest-fits m _ (plain.indices i (omega (arith, plain.sixteen)))),
      )
