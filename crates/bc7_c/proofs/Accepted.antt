-- What the checks accept of the numbers of C, and the words that these then are.
use Prim.Native.Nat.{ℕ, suc, ◌-◌, ◌^◌, ◌≤◌, ◌<◌}
use native.Mathlib.Nat.{lt_of_lt_of_le}
use native.Mathlib.Omega.{arith}
use mathlib.Core.Path.{◌≡◌, refl, sym, ap, ap₂, ◌∙◌}
use mathlib.Core.Logic.{inl, inr}
use mathlib.Core.List.{List, [], ◌∷◌, map}
use lib.Dec.{lit≤, eqb}
use lib.ListN.{get_or, length, length-map}
use borrow.Author.Tests.{eq-eqb}
use Rattle.lists.proofs.Tests.{pick_elim}
use Rattle.bptc.specs.declared.Rgb.{Rgb}
use Rattle.bptc.specs.Mode.{Mode, mode_numbered, p_bits}
use Rattle.bptc.specs.Internal.Colour.{black, Below}
use Rattle.bptc.specs.Internal.Pixels.{pixel_of}
use Rattle.bptc.proofs.ColourBounds.{rgb_eq}
use Rattle.bptc_block.specs.declared.Fields.{Fields}
use Rattle.bptc_block.specs.RgbaCandidate.{rgba_candidate}
use Rattle.bptc_block.specs.Fields.{block_fields, Plain}
use Rattle.bptc_block.specs.Internal.Words.{p_bits_of, word_fields, word_candidate}
use Rattle.bptc_block.specs.PackCall.{pack_of}
use Rattle.bptc.proofs.Modes.{each_mode, is_mode}
use Rattle.bptc.proofs.Colours.{without-length}
use Rattle.bptc_block.proofs.Modes.{lawful}
use Rattle.bptc_block.proofs.Finishing.{Good}
use Rattle.bptc_block.proofs.Stored.{stored_rgb}
use Rattle.bptc_block.proofs.PackCall.{pack_good, pack_plain}
use Rattle.bptc_block.proofs.WordEnds.{channel-byte}
use Rattle.bptc_rust.proofs.Digits.{split-length}
use Rattle.bc7_c.specs.Numbers.{end_in, indices_of, packed_at, candidate_at}

-- the greatest p-bits of a mode are a byte
small_bits : (n : ℕ) → 2 ^ p_bits (mode_numbered n) ≤ 256
small_bits = each_mode (λ (m : Mode). 2 ^ p_bits m ≤ 256) (lit≤ tt) (lit≤ tt)

-- and so are its partitions
few_partitions : (n : ℕ) → 2 ^ (mode_numbered n).partition_bits ≤ 256
few_partitions = each_mode (λ (m : Mode). 2 ^ m.partition_bits ≤ 256) (lit≤ tt) (lit≤ tt)

-- a number without bits above its third byte
end_pixel : (e : ℕ) → (end_in e).b < 256 → pixel_of e ≡ end_in e
unfolding end_in pixel_of
end_pixel e h = rgb_eq refl refl (omega arith)

-- four channels in range stand for themselves as words
same_ends : (top : ℕ) → top ≤ 256 → (ends : List ℕ) → ((k : ℕ) → k < length (map end_in ends) → Below top (get_or (map end_in ends) k black)) → map pixel_of ends ≡ map end_in ends
same_ends top most [] h = refl
same_ends top most (e ∷ es) h = ap₂ ◌∷◌ (end_pixel e (lt_of_lt_of_le (h 0 (omega arith)).b most)) (same_ends top most es (λ k l. h (suc k) (omega arith)))

-- what is known of a candidate's numbers that they accept: mode, partition and fixed p-bits are bytes, and the endpoints words
pub record Bytewise (mode partition : ℕ) (ends : List ℕ) (p free : ℕ) : Type 0 where
  pub mode-byte : mode < 256
  pub partition-byte : partition < 256
  pub p-byte : free ≡ 0 → p < 256
  pub again : map pixel_of ends ≡ map end_in ends
  pub same : word_candidate (record { mode = mode; partition = partition; ends = ends; p = p_bits_of p free }) ≡ candidate_at mode partition ends p free

module _ (mode partition : ℕ) (ends : List ℕ) (p free : ℕ) (fit : Good (rgba_candidate (candidate_at mode partition ends p free))) where
  fixed-byte : free ≡ 0 → p < 256
  fixed-byte e =
      let h : p < 2 ^ p_bits (mode_numbered mode) = rw (eq-eqb free 0 e) at fit.p in
      omega (arith, small_bits mode)

  ends_again : map pixel_of ends ≡ map end_in ends
  ends_again =
      let m : Mode = mode_numbered mode in
      let four : length (map end_in ends) ≡ 4 = sym (without-length (map end_in ends)) ∙ fit.room in
      same_ends (2 ^ m.channel_bits) (channel-byte m (is_mode mode)) ends (λ k h. stored_rgb m (is_mode mode) (map end_in ends) fit.stored k (omega arith))

  -- they are so
  pub bytewise : Bytewise mode partition ends p free
  bytewise =
      record {
        mode-byte = omega (arith, fit.mode, (lawful mode).low);
        partition-byte = omega (arith, fit.partition, few_partitions mode);
        p-byte = fixed-byte;
        again = ends_again;
        same = ap (λ (es : List Rgb). record { mode = mode; partition = partition; ends = es; p = p_bits_of p free }) ends_again;
      }

-- what is known of the numbers that `pack` accepts
pub record Accepted (mode partition : ℕ) (ends : List ℕ) (p indices : ℕ) : Type 0 where
  -- mode, partition and p-bits are bytes
  pub mode-byte : mode < 256
  pub partition-byte : partition < 256
  pub p-byte : p < 256
  -- the fields are in range
  pub plain : Plain (mode_numbered mode) (block_fields (packed_at partition ends p indices))
  -- and words stand for them
  pub words : word_fields 4 (record { partition = partition; ends = ends; p = p; indexes = indices }) ≡ packed_at partition ends p indices

module _ (mode partition : ℕ) (ends : List ℕ) (p indices : ℕ) (part : List ℕ) (four : length ends ≡ 4) (ok : pack_of mode (packed_at partition ends p indices) part ≡ 0) where
  abbrev f : Fields
  f = packed_at partition ends p indices

  -- they are so
  pub accept : Accepted mode partition ends p indices
  accept =
      let b : Bytewise mode partition ends p 0 = bytewise mode partition ends p 0 (pack_good mode f part ok (length-map ends end_in ∙ four)) in
      record {
        mode-byte = b.mode-byte;
        partition-byte = b.partition-byte;
        p-byte = b.p-byte refl;
        plain = pack_plain mode f part ok (length-map ends end_in ∙ four) (split-length 16 4 indices);
        words = ap (λ (es : List Rgb). record { partition = partition; ends = es; p = p; indices = indices_of indices }) b.again;
      }
