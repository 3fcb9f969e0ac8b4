-- Laws of the calls `read` and `measure`: what they accept, what they decline, and what they leave.
use Prim.Native.Nat.{ℕ, zero, suc, ◌<◌}
use native.Mathlib.Omega.{arith}
use mathlib.Core.Path.{◌≡◌, refl, sym, ◌∙◌}
use mathlib.Core.Logic.{inl, inr}
use mathlib.Core.List.{List}
use lib.Dec.{eqb}
use lib.ListN.{length, get_or}
use borrow.Author.Tests.{eqb-true, eq-eqb, ne_eqb, lt-ltb}
use Rattle.lists.specs.Digits.{zeros_below}
use Rattle.lists.proofs.Tests.{pick_elim}
use Rattle.lists.proofs.Digits.{zeros-zero}
use Rattle.bptc.specs.Mode.{mode_numbered}
use Rattle.bptc.specs.Colour.{pixel_bytes}
use Rattle.bptc.proofs.Pixels.{bytes_long}
use Rattle.bptc_block.specs.Fields.{rgb_fields}
use Rattle.bptc_block.specs.Answers.{Measured, BlockRead, reading_of, unread}
use Rattle.bptc_block.specs.Packed.{mode_of, fields_of}
use Rattle.bptc_block.specs.Chapter.{colours, distance}
use Rattle.bptc_block.specs.Checks.{NotDeclined, PixelsChecked, BlockChecked, ReadableChecked}
use Rattle.bptc_block.specs.ReadCall.{read_refusal, read_of, read_into}
use Rattle.bptc_block.specs.MeasureCall.{measure_of}
use Rattle.bptc_block.proofs.Refusals.{Known, number_said, passed, is_mode_lem}
use Rattle.bptc_block.proofs.Checks.{pixels-checked, block-checked, readable_checked}

-- a block that says mode 1 or 3 does not begin with a zero byte
some_byte : (block : List ℕ) → Known (mode_of block) → 0 < get_or block 0 0
unfolding mode_of
some_byte block known = go (get_or block 0 0) known
  where
    go : (n : ℕ) → Known (zeros_below 8 n) → 0 < n
    go zero (inl e) = absurd (omega (arith, zeros-zero 8))
    go zero (inr e) = absurd (omega (arith, zeros-zero 8))
    go (suc n) k = omega arith

module _ (block px : List ℕ) where
  -- the number in the answer
  pub read_number : (read_of block px).refusal ≡ read_refusal block px
  unfolding read_of
  read_number = number_said (λ (a : BlockRead). a.refusal) (read_refusal block px) refl refl

  -- by checks 1, 2, 8 and 9
  pub read-checked : PixelsChecked px (BlockChecked block (ReadableChecked block NotDeclined)) (read_refusal block px)
  unfolding read_refusal
  read-checked = pixels-checked _ _ px (block-checked _ _ block (readable_checked NotDeclined 0 block refl))

  -- measuring answers the same number
  pub measure-number : (measure_of block px).refusal ≡ read_refusal block px
  unfolding measure_of
  measure-number = number_said (λ (a : Measured). a.refusal) (read_refusal block px) refl refl

  -- a declined call answers the number and leaves all else zero
  pub read-declined : (read_refusal block px ≡ 0 → ⊥) → read_of block px ≡ unread (read_refusal block px)
  unfolding read_of
  read-declined ne = rw (ne_eqb (read_refusal block px) 0 ne)

  -- and so does measuring
  pub measure-declined : (read_refusal block px ≡ 0 → ⊥) → measure_of block px ≡ record { refusal = read_refusal block px; error = 0 }
  unfolding measure_of
  measure-declined ne = rw (ne_eqb (read_refusal block px) 0 ne)

  -- it leaves the part as it was
  pub read_leaves : ((read_of block px).refusal ≡ 0 → ⊥) → read_into block px ≡ px
  unfolding read_into
  read_leaves ne = rw (ne_eqb (read_refusal block px) 0 (λ e. ne (read_number ∙ e)))

  -- a block of either mode is read, over parts of the right lengths
  pub readable : length px ≡ 48 → length block ≡ 16 → Known (mode_of block) → (read_of block px).refusal ≡ 0
  unfolding read_refusal
  readable p b known =
      read_number
      ∙ rw (eq-eqb (length px) 48 p, eq-eqb (length block) 16 b, lt-ltb 0 (get_or block 0 0) (some_byte block known), is_mode_lem (mode_of block) known)

  module _ (ok : (read_of block px).refusal ≡ 0) where
    no_refusal : read_refusal block px ≡ 0
    no_refusal = sym read_number ∙ ok

    -- the answer of a call that is not declined
    pub read_answer_lem : read_of block px ≡ reading_of (mode_of block) (rgb_fields (fields_of (mode_numbered (mode_of block)) block))
    unfolding read_of
    read_answer_lem = rw no_refusal

    -- and the part after it
    pub read-pixels : read_into block px ≡ pixel_bytes 3 (colours (mode_numbered (mode_of block)) (fields_of (mode_numbered (mode_of block)) block))
    unfolding read_into
    read-pixels = rw no_refusal

    -- measuring makes the same checks
    pub measure-answer : measure_of block px ≡ record { refusal = 0; error = distance px block }
    unfolding measure_of
    measure-answer = rw no_refusal

    -- the pixels are 48 bytes
    pub read-pixels-length : length px ≡ 48
    unfolding read_refusal
    read-pixels-length = eqb-true (length px) 48 (passed (eqb (length px) 48) 0 _ no_refusal).0

  -- the part keeps its length
  pub read_length : length (read_into block px) ≡ length px
  unfolding read_into
  read_length =
      pick_elim (λ (bs : List ℕ). length bs ≡ length px) (eqb (read_refusal block px) 0)
      (λ t. bytes_long 3 (omega arith) _ ∙ sym (read-pixels-length (read_number ∙ eqb-true (read_refusal block px) 0 t)))
      (λ t. refl)

  -- so that the checks say the same of it afterwards
  pub read_again : read_refusal block (read_into block px) ≡ read_refusal block px
  unfolding read_refusal
  read_again = rw read_length
