-- `finishing::words::finish` meets its contract.
use Prim.Native.Nat.{ℕ, ◌*◌, ◌^◌, ◌<◌}
use mathlib.Core.Path.{◌≡◌, refl, sym, ap, ◌∙◌, subst}
use mathlib.Core.List.{List}
use lib.ListN.{length, length-map}
use borrow.Author.Rules.{rules}
use Rattle.bptc.specs.Mode.{Mode, mode_numbered}
use Rattle.bptc.specs.Colour.{pixels_of, squared_distance}
use Rattle.bptc.specs.Internal.Shown.{Stored}
use Rattle.bptc.specs.Internal.Pixels.{pixel_of}
use Rattle.bptc.proofs.Modes.{is_mode}
use Rattle.bptc.proofs.Colours.{without-length}
use Rattle.bptc_block.specs.declared.Candidate.{Candidate}
use Rattle.bptc_block.specs.declared.CandidateWords.{CandidateWords}
use Rattle.bptc_block.specs.declared.FieldWords.{FieldWords}
use Rattle.bptc_block.specs.Fields.{BlockFields, block_fields, Plain}
use Rattle.bptc_block.specs.RgbaCandidate.{rgba_candidate}
use Rattle.bptc_block.specs.Packed.{packed}
use Rattle.bptc_block.specs.Exchange.{compressed}
use Rattle.bptc_block.specs.Refusal.{check_candidate}
use Rattle.bptc_block.specs.Finish.{finished_by, finish}
use Rattle.bptc_block.specs.Internal.Words.{word_fields, word_candidate}
use Rattle.bptc_block.proofs.Stored.{stored_rgb}
use Rattle.bptc_block.proofs.Refusals.{good}
use Rattle.bptc_block.proofs.Finishing.{Good, fields_plain}
use Rattle.bptc_rust.proofs.Masks.{double_of}
use Rattle.finishing.specs.declared.Indices.{Indices}
use Rattle.finishing.specs.Indices.{nearest_for}
use Rattle.finishing.proofs.Finished.{finished_fields, finished_small, finished_error}
use Rattle.finishing.proofs.words.finish.Given.{Over}
use Rattle.finishing.proofs.words.finish.Goals.{After-nearest-found}
use Rattle.finishing.proofs.words.finish.Goals as goal

-- the words of what is found
abbrev words_of : CandidateWords → Indices → FieldWords
words_of w found = record { partition = w.partition; ends = w.ends; p = found.p; indexes = found.indexes }

-- the fields that they stand for
abbrev found_fields : CandidateWords → Mode → Indices → BlockFields
found_fields w m found = block_fields (word_fields m.index_bits (words_of w found))

-- what is known of them in a mode
record Finishes (px : List ℕ) (w : CandidateWords) (m : Mode) (found : Indices) : Type 0 where
  plain : Plain m (found_fields w m found)
  list : found.indexes < 2 ^ (16 * m.index_bits)
  error : found.error ≡ (finish px (word_candidate w)).error
  block : packed m (compressed m (found_fields w m found)) ≡ (finish px (word_candidate w)).block

-- a candidate that the checks accept
module _ (px : List ℕ) (long : length px ≡ 48) (w : CandidateWords) (ends : length w.ends ≡ 4) (ok : check_candidate (word_candidate w) 0 ≡ 0) where
  abbrev k : Candidate
  k = word_candidate w

  fit : Good (rgba_candidate k)
  fit = (good (rgba_candidate k) 0 (without-length k.ends ∙ length-map w.ends pixel_of ∙ ends) ok).0

  -- its endpoints are within the mode's width
  stored : (m : Mode) → mode_numbered w.mode ≡ m → Stored m k.ends
  stored m own = subst (λ (m : Mode). Stored m k.ends) own (stored_rgb (mode_numbered w.mode) (is_mode w.mode) k.ends fit.stored)

  -- its partition is one of the table's
  inside : w.partition < 64
  inside = rw (double_of (mode_numbered w.mode) (is_mode w.mode)).parts at fit.partition

  -- what the search gives for it is what finishing packs
  finishes_own : Finishes px w (mode_numbered w.mode) (nearest_for (mode_numbered w.mode) w.partition k.ends w.p px)
  unfolding finished_by
  finishes_own =
      let m : Mode = mode_numbered w.mode in
      let same = finished_fields px long k fit w.ends refl in
      record {
        plain = subst (Plain m) (sym same) (fields_plain squared_distance (pixels_of 3 px) (rgba_candidate k) fit);
        list = finished_small px long k fit;
        error = finished_error px long k fit;
        block = ap (λ (f : BlockFields). packed m (compressed m f)) same;
      }

  finishes : (m : Mode) → mode_numbered w.mode ≡ m → (found : Indices) → found ≡ nearest_for m w.partition k.ends w.p px → Finishes px w m found
  finishes m own found is = rw is (subst (λ (m : Mode). Finishes px w m (nearest_for m w.partition k.ends w.p px)) own finishes_own)

-- so it finishes the candidate
all_of : (g : Over) (c : After-nearest-found g) → Finishes c.args.pixels.now c.args.candidate.words g.M.Mode.mode c.nearest-found.result
all_of g c =
    let accepted = c.args.candidate.accepted in
    finishes c.args.pixels.now (search rules) c.args.candidate.words (search rules) accepted g.M.Mode.mode c.requires.own c.nearest-found.result
    (rw (c.new.ensures, c.endpoints.ensures) at c.nearest-found.ensures)

pub new-requires : goal.new-requires
new-requires g c =
    rw c.endpoints.ensures (stored c.args.pixels.now (search rules) c.args.candidate.words (search rules) c.args.candidate.accepted g.M.Mode.mode c.requires.own)

pub invariant_of-query : goal.invariant_of-query
invariant_of-query g c = record { inside = inside c.args.pixels.now (search rules) c.args.candidate.words (search rules) c.args.candidate.accepted }

pub write_words-requires-clause-plain : goal.write_words-requires-clause-plain
write_words-requires-clause-plain g c = (all_of g (goal.at.write_words-requires-clause-plain g c).After-nearest-found).plain

pub write_words-requires-clause-list : goal.write_words-requires-clause-list
write_words-requires-clause-list g c = (all_of g (goal.at.write_words-requires-clause-list g c).After-nearest-found).list

pub returns-clause-error : goal.returns-clause-error
returns-clause-error g c = (all_of g (goal.at.returns-clause-error g c).After-nearest-found).error

pub returns-clause-part : goal.returns-clause-part
returns-clause-part g c = c.write_words.ensures ∙ (all_of g (goal.at.returns-clause-part g c).After-nearest-found).block
