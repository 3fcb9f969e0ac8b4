-- The block of `pack` is the Rust's.
use Prim.Native.Nat.{ℕ, ◌<◌}
use native.Mathlib.Omega.{arith}
use mathlib.Core.Path.{◌≡◌, refl, sym, ap, ◌∙◌}
use mathlib.Core.Logic.{inl, inr}
use lib.Dec.{eqb, eqb→eq}
use Rattle.lists.specs.Bits.{join}
use Rattle.lists.proofs.Tables.{tested}
use Rattle.bptc.specs.Mode.{mode1, mode3, mode_numbered}
use Rattle.bptc_block.specs.declared.Fields.{Fields}
use Rattle.bptc_block.specs.Fields.{block_fields, Plain}
use Rattle.bptc_block.specs.Packed.{packed}
use Rattle.bptc_block.specs.Exchange.{compressed}
use Rattle.bptc_block.specs.Compressed.{Compressed}
use Rattle.bptc_block.specs.PackCall.{pack_of}
use Rattle.bptc_block.proofs.Refusals.{Known}
use Rattle.bptc_block.proofs.RoundTrip.{in_range_lem}
use Rattle.bptc_block.proofs.PackCall.{pack-block, pack_accepts}
use Rattle.bptc_rust.specs.PBits.{p_list}
use Rattle.bptc_rust.specs.Compressed as Rust
use Rattle.bptc_rust.specs.Packs.{rust_block, Packs}
use Rattle.bptc_rust.proofs.Digits.{digits, list_digits}
use Rattle.bptc_rust.proofs.Compressing.{plain_small}
use Rattle.bptc_rust.proofs.Swaps.{p_number}
use Rattle.bptc_rust.proofs.Blocks.{pack1, pack3}

-- the bits of a number make it again: mode 1's two, and mode 3's four
two_bits : (p : ℕ) → p < 4 → p ≡ p_number (p_list 2 p)
unfolding digits join
two_bits p h = eqb→eq _ _ (tested (λ (p : ℕ). eqb p (p_number (p_list 2 p))) 4 tt p h)

four-bits : (p : ℕ) → p < 16 → p ≡ p_number (p_list 4 p)
unfolding digits join
four-bits p h = eqb→eq _ _ (tested (λ (p : ℕ). eqb p (p_number (p_list 4 p))) 16 tt p h)

module _ (f : Fields) where
  packed1 : Plain mode1 (block_fields f) → packed mode1 (compressed mode1 (block_fields f)) ≡ rust_block 1 f
  unfolding rust_block
  packed1 plain =
      sym (ap (λ (n : ℕ). (Rust.mode1 0 f.partition f.ends (p_list 2 f.p) n).block) (list_digits 3 (omega arith) f.indices plain.sixteen (plain_small mode1 (block_fields f) plain))
      ∙ ap (λ (k : Compressed). k.block) (pack1 f 0 (p_list 2 f.p) (two_bits f.p plain.p) plain refl))

  packed3 : Plain mode3 (block_fields f) → packed mode3 (compressed mode3 (block_fields f)) ≡ rust_block 3 f
  unfolding rust_block
  packed3 plain =
      sym (ap (λ (n : ℕ). (Rust.mode3 0 f.partition f.ends (p_list 4 f.p) n).block) (list_digits 2 (omega arith) f.indices plain.sixteen (plain_small mode3 (block_fields f) plain))
      ∙ ap (λ (k : Compressed). k.block) (pack3 f 0 (p_list 4 f.p) (four-bits f.p plain.p) plain refl))

  either : (mode : ℕ) → Known mode → Plain (mode_numbered mode) (block_fields f) → packed (mode_numbered mode) (compressed (mode_numbered mode) (block_fields f)) ≡ rust_block mode f
  unfolding mode_numbered
  either mode (inl e) = rw e packed1
  either mode (inr e) = rw e packed3

-- the call
pub packs : Packs
packs mode f part range sixteen =
    let (known, plain) = in_range_lem mode f range in
    let ok : pack_of mode f part ≡ 0 = pack_accepts mode f part sixteen known plain in
    (ok, pack-block mode f part ok ∙ either f mode known plain)
