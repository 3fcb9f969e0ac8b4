-- Fields in fewer numbers, and the fields that these stand for.
use Prim.Native.Nat.{ℕ, ◌*◌, ◌^◌, ◌<◌}
use mathlib.Core.Path.{◌≡◌, sym, ap₂, ◌∙◌}
use mathlib.Core.List.{List, map}
use Rattle.bptc.specs.declared.Rgb.{Rgb}
use Rattle.bptc.specs.Mode.{Mode, IsMode}
use Rattle.bptc.specs.Internal.Pixels.{pixel_word, pixel_of}
use Rattle.bptc.proofs.Colours.{without-length}
use Rattle.bptc_block.specs.declared.Fields.{Fields}
use Rattle.bptc_block.specs.declared.FieldWords.{FieldWords}
use Rattle.bptc_block.specs.Fields.{block_fields, Plain}
use Rattle.bptc_block.specs.Internal.Words.{word_fields}
use Rattle.bptc_block.proofs.Stored.{stored_rgb}
use Rattle.bptc_block.proofs.WordEnds.{words-again}
use Rattle.bptc_rust.specs.IndexList.{index_list}
use Rattle.bptc_rust.proofs.Digits.{list_split, list_lt}
use Rattle.bptc_rust.proofs.Order.{ordered_of}
use Rattle.bptc_rust.proofs.Compressing.{plain_small}

-- the words of fields in range
module _ (m : Mode) (known : IsMode m) (f : Fields) (plain : Plain m (block_fields f)) where
  -- with endpoints as words
  abbrev words_of : List ℕ → FieldWords
  words_of ends = record { partition = f.partition; ends = ends; p = f.p; indexes = index_list m.index_bits f.indices }

  -- stand for them
  pub words-stand : (ends : List ℕ) → map pixel_of ends ≡ f.ends → word_fields m.index_bits (words_of ends) ≡ f
  words-stand ends e =
      ap₂ (λ (es : List Rgb) (is : List ℕ). record { partition = f.partition; ends = es; p = f.p; indices = is }) e
      (list_split m.index_bits (ordered_of m known).most f.indices plain.sixteen (plain_small m (block_fields f) plain))

  -- so do those of the endpoints
  pub fields-again : word_fields m.index_bits (words_of (map pixel_word f.ends)) ≡ f
  fields-again =
      words-stand (map pixel_word f.ends) (words-again m known f.ends (sym (without-length f.ends) ∙ plain.room) (stored_rgb m known f.ends plain.channels))

  -- and their list has no more bits than the indices
  pub list_small : index_list m.index_bits f.indices < 2 ^ (16 * m.index_bits)
  list_small = list_lt m.index_bits (ordered_of m known).most f.indices plain.sixteen (plain_small m (block_fields f) plain)
