-- `bits::writing::write_words` meets its contract.
use Prim.Native.Nat.{ℕ, ◌*◌, ◌^◌, ◌<◌}
use mathlib.Core.Path.{◌≡◌, sym, ◌∙◌}
use mathlib.Core.Bool.{Bool}
use mathlib.Core.List.{List, map}
use Rattle.bptc.specs.declared.Rgb.{Rgb}
use Rattle.bptc.specs.Mode.{Mode, IsMode}
use Rattle.bptc.specs.Internal.Pixels.{pixel_of}
use Rattle.bptc_block.specs.declared.FieldWords.{FieldWords}
use Rattle.bptc_block.specs.Fields.{block_fields, Plain}
use Rattle.bptc_block.specs.Internal.Words.{word_fields}
use Rattle.bptc_block.specs.Internal.Swaps.{swapped_ends, exchanged_both}
use Rattle.bptc_rust.specs.CompressedIndexList.{compress_p2}
use Rattle.bptc_rust.specs.Subset2Map.{PARTITION-SET-2}
use Rattle.bptc_rust.proofs.Digits.{split_list}
use Rattle.bptc_rust.proofs.Order.{ordered_of}
use Rattle.bptc_rust.proofs.Masks.{double_of}
use Rattle.bptc_rust.proofs.Writing.{Ready, ready}
use Rattle.bits.proofs.writing.write_words.Goals as goal

-- what is written: the compressed fields
made : (m : Mode) → IsMode m → (w : FieldWords) → Plain m (block_fields (word_fields m.index_bits w)) → w.indexes < 2 ^ (16 * m.index_bits) →
    {n p : ℕ} {t u : Bool} {ends : List Rgb} → n ≡ (compress_p2 m.index_bits w.indexes (PARTITION-SET-2 w.partition)).0.compressed_indexes →
    t ≡ (compress_p2 m.index_bits w.indexes (PARTITION-SET-2 w.partition)).1 → u ≡ (compress_p2 m.index_bits w.indexes (PARTITION-SET-2 w.partition)).2 →
    ends ≡ swapped_ends (map pixel_of w.ends) t u → p ≡ exchanged_both m t u w.p → Ready m (word_fields m.index_bits w) ends p n
made m known w plain small {n} {p} {t} {u} e₀ e₁ e₂ ends bits =
    let f = word_fields m.index_bits w in
    rw ends
    (ready m known f plain w.indexes (sym (split_list m.index_bits (ordered_of m known).most w.indexes small)) t u n p e₀ e₁ e₂ bits)

pub write_fields-bits-requires : goal.write_fields-bits-requires
write_fields-bits-requires g c =
    let m = g.M.Mode in
    let q = c.compress_p2-indexes.ensures in
    let r = made m.mode m.is_mode c.args.w c.requires.plain c.requires.list q.same q.first q.second c.swapped.ensures c.exchanged_bits.ensures in
    record { inside = rw (double_of m.mode m.is_mode).parts at c.requires.plain.partition; stored = r.channels; own = r.own; rest = r.rest }

pub returns : goal.returns
returns g c =
    let m = g.M.Mode in
    let q = c.compress_p2-indexes.ensures in
    let r = made m.mode m.is_mode c.args.w c.requires.plain c.requires.list q.same q.first q.second c.swapped.ensures c.exchanged_bits.ensures in
    c.write_bytes.ensures ∙ r.block c.write_fields-bits.result c.write_fields-bits.ensures
