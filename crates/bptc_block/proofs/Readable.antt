-- The refusal of a block to be read, by the zero bits below the lowest one bit of byte 0: one test that antt computes over the bytes.
use Prim.Native.Nat.{ℕ, ◌%◌, ◌<◌}
use native.Mathlib.Omega.{arith}
use mathlib.Core.Path.{◌≡◌, refl, sym, ap, ◌∙◌}
use mathlib.Core.Bool.{Bool}
use mathlib.Core.Logic.{◌⊎◌, inl, inr}
use mathlib.Core.List.{List}
use lib.Count.{count_trailing_zeros}
use lib.Dec.{ltb, eqb, eqb→eq}
use lib.ListN.{get_or}
use borrow.Author.Tests.{lt-ltb}
use Rattle.lists.specs.Tests.{pick}
use Rattle.lists.specs.Digits.{zeros_below}
use Rattle.lists.proofs.Tests.{pick_elim}
use Rattle.lists.proofs.Tables.{tested}
use Rattle.lists.proofs.Digits.{zeros_is, zeros_of, low_of}
use Rattle.bptc.specs.Mode.{mode_numbered}
use Rattle.bptc_block.specs.Packed.{mode_of}
use Rattle.bptc_block.specs.Refusal.{unless, is_mode, check_readable}
use Rattle.bptc_block.proofs.Refusals.{Known, one_or_three}

-- 0 for modes 1 and 3, 9 for the others, and 8 where no bit is one
abbrev pub by_zeros : ℕ → ℕ
by_zeros z = pick (is_mode z) 0 (pick (ltb z 8) 9 8)

-- the test, at a byte
abbrev byte_test : ℕ → Bool
byte_test b = eqb (unless (ltb 0 b) 8 (unless (is_mode (zeros_below 8 b)) 9 0)) (by_zeros (zeros_below 8 b))

by_byte : (b : ℕ) → b < 256 → unless (ltb 0 b) 8 (unless (is_mode (zeros_below 8 b)) 9 0) ≡ by_zeros (zeros_below 8 b)
unfolding zeros_below mode_numbered
by_byte b h = eqb→eq _ _ (tested byte_test 256 tt b h)

-- the last checks of reading, by the machine's count of trailing zeros
pub readable : (block : List ℕ) → get_or block 0 0 < 256 → check_readable block 0 ≡ by_zeros (count_trailing_zeros 8 (get_or block 0 0))
unfolding mode_of
readable block h = by_byte (get_or block 0 0) h ∙ ap by_zeros (sym (zeros_is 8 (get_or block 0 0)))

-- of a mode that is not 1 or 3
pub zeros-other : (z : ℕ) → (Known z → ⊥) → z < 8 → by_zeros z ≡ 9
zeros-other z n h =
    pick_elim (λ (x : ℕ). x ≡ pick (ltb z 8) 9 8) (is_mode z) (λ t. absurd (n (one_or_three z t))) (λ t. refl) ∙ ap (λ (t : Bool). pick t 9 8) (lt-ltb z 8 h)

-- a block says mode 1 or 3 by the lowest bits of byte 0
pub says_known : (block : List ℕ) → (get_or block 0 0 % 4 ≡ 2) ⊎ (get_or block 0 0 % 16 ≡ 8) → Known (mode_of block)
unfolding mode_of
says_known block (inl e) = inl (zeros_of 8 1 (get_or block 0 0) (omega arith) e)
says_known block (inr e) = inr (zeros_of 8 3 (get_or block 0 0) (omega arith) e)

-- and back
pub known_says : (block : List ℕ) → Known (mode_of block) → (get_or block 0 0 % 4 ≡ 2) ⊎ (get_or block 0 0 % 16 ≡ 8)
unfolding mode_of
known_says block (inl e) = inl (rw e at (low_of 8 (get_or block 0 0) (omega arith)))
known_says block (inr e) = inr (rw e at (low_of 8 (get_or block 0 0) (omega arith)))
