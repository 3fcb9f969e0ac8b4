-- The fields of a block that follow its channels may be laid out in other fields of the same number; and the Rust's stream of writes, the
-- indexes as one number and each p-bit by itself, holds the packed block.
use Prim.Native.Nat.{ℕ, ◌+◌, ◌-◌, ◌*◌, ◌^◌}
use native.Mathlib.Omega.{arith}
use mathlib.Core.Path.{◌≡◌, sym, ap, ap₂, ◌∙◌}
use mathlib.Core.List.{List, [], ◌∷◌, ◌++◌, map}
use lib.ListN.{replicate, length-replicate}
use lib.Pow.{pow-lt}
use Rattle.lists.specs.Rows.{up_from, sum}
use Rattle.lists.specs.Internal.Fields.{Fits}
use Rattle.lists.specs.Bits.{split, join}
use Rattle.lists.specs.Internal.Fields.{none, more}
use Rattle.lists.specs.Bytes.{bytes}
use Rattle.lists.proofs.Bits.{fits_append, fits_places, fits-split, fits-length, join-split, join_append, join-later, join_single, sum-replicate}
use Rattle.bptc.specs.Mode.{Mode, p_bits}
use Rattle.bptc_block.specs.Fields.{BlockFields, Plain, WellFormed, index_width, stores, widths, channel_values, values}
use Rattle.bptc_block.specs.Packed.{packed}
use Rattle.bptc_block.specs.Exchange.{compressed}
use Rattle.bptc_block.proofs.Modes.{Lawful}
use Rattle.bptc_block.proofs.Widths.{channels-length, channel-fits}
use Rattle.bptc_block.proofs.Exchanging.{compressed-partition, compressed_formed}
use Rattle.bptc_rust.specs.BitStream.{new}
use Rattle.bptc_rust.proofs.Order.{Ordered}
use Rattle.bptc_rust.proofs.Compressing.{index_number, number_small}
use Rattle.bptc_rust.proofs.Swaps.{bits_of}
use Rattle.bptc_rust.proofs.Stream.{writes, writes_join, stream_widths, stream_values}

sum_append : (xs ys : List ℕ) → sum (xs ++ ys) ≡ sum xs + sum ys
sum_append [] ys = omega arith
sum_append (x ∷ xs) ys = omega (arith, sum_append xs ys)

module _ (m : Mode) (law : Lawful m) (order : Ordered m) (f : BlockFields) (plain : Plain m f) where
  -- the fields after any exchange
  abbrev after : BlockFields
  after = compressed m f

  formed : WellFormed m after
  formed = compressed_formed m law f plain

  -- the number of their indexes
  abbrev number : ℕ
  number = index_number m law order f plain

  -- its bits
  abbrev w : ℕ
  w = 16 * m.index_bits - m.subsets

  -- the number of the block, where what follows the channels makes the number of p-bits and indexes
  pub number_same : (us xs : List ℕ) → join us xs ≡ number * 2 ^ p_bits m + after.p →
      join ((m.number + 1) ∷ (m.partition_bits ∷ (replicate (stores m) m.channel_bits ++ us))) ((2 ^ m.number) ∷ (f.partition ∷ (channel_values m after.ends ++ xs)))
      ≡ join (widths m after.partition) (values m after)
  unfolding join widths values
  number_same us xs same =
      ap (λ (x : ℕ). (x * 2 ^ m.partition_bits + f.partition) * 2 ^ (m.number + 1) + 2 ^ m.number)
      (join-later (replicate (stores m) m.channel_bits) (channel_values m after.ends) us xs (p_bits m ∷ map (index_width m f.partition) (up_from 0 16)) (after.p ∷ after.indices)
      (channels-length m law after.ends ∙ sym (length-replicate (stores m) m.channel_bits)) same)
      ∙ ap (λ (q : ℕ). join (widths m q) (values m (record { partition = q; ends = after.ends; p = after.p; indices = after.indices }))) (sym (compressed-partition m law f plain))

  tail_same : join (replicate (p_bits m) 1 ++ (w ∷ [])) (bits_of m after.p ++ (number ∷ [])) ≡ number * 2 ^ p_bits m + after.p
  tail_same =
      let ones : List ℕ = replicate (p_bits m) 1 in
      let bits : sum ones ≡ p_bits m = sum-replicate (p_bits m) 1 ∙ omega arith in
      let own : join ones (split ones after.p) ≡ after.p = join-split ones after.p (rw bits formed.within.p) in
      join_append ones (split ones after.p) (w ∷ []) (number ∷ []) (fits-length (fits-split ones after.p))
      ∙ ap₂ (λ (a b : ℕ). a * 2 ^ sum ones + b) (join_single w number) own
      ∙ ap (λ (k : ℕ). number * 2 ^ k + after.p) bits

  stream_fits : Fits (stream_widths m w) (stream_values m f.partition (channel_values m after.ends) (bits_of m after.p) number)
  stream_fits =
      more (pow-lt {i = m.number} {j = m.number + 1} (omega arith)) (more plain.partition
      (fits_append
      (fits_places (replicate (stores m) m.channel_bits) (channel_values m after.ends) (channels-length m law after.ends ∙ sym (length-replicate (stores m) m.channel_bits)) (channel-fits m law after formed))
      (fits_append (fits-split (replicate (p_bits m) 1) after.p) (more (number_small m law order f plain) none))))

  stream_total : sum (stream_widths m w) ≡ 128
  unfolding widths
  stream_total =
      let whole : sum (widths m f.partition) ≡ 128 = law.whole f.partition plain.partition in
      let rs : List ℕ = replicate (stores m) m.channel_bits in
      omega (
        arith,
        whole,
        sum_append rs (replicate (p_bits m) 1 ++ (w ∷ [])),
        sum_append (replicate (p_bits m) 1) (w ∷ []),
        sum_append rs (p_bits m ∷ map (index_width m f.partition) (up_from 0 16)),
        sum-replicate (p_bits m) 1,
        order.total f.partition plain.partition,
      )

  -- what the stream holds
  pub stream_block : (cs bits : List ℕ) → cs ≡ channel_values m after.ends → bits ≡ bits_of m after.p →
      bytes 16 (writes new (stream_widths m w) (stream_values m f.partition cs bits number)).«data» ≡ packed m after
  unfolding packed
  stream_block cs bits c b =
      rw (c, b) (ap (bytes 16) (writes_join stream_fits (omega (arith, stream_total)) ∙ number_same (replicate (p_bits m) 1 ++ (w ∷ [])) (bits_of m after.p ++ (number ∷ [])) tail_same))
