-- The list of refusals in plain numbers.
use Rattle.std.specs.Prelude.{ℕ, ◌%◌, ◌<◌, ◌≡◌, ◌⊎◌, List, get_or, length}
use Rattle.bptc.specs.Colour.{clear, channel, without_alpha}
use Rattle.bptc_block.specs.declared.Candidate.{Candidate}
use Rattle.bptc_block.specs.Limits.{Limits, limits, limits_for, BitsWithin}

-- no check is left
abbrev pub NotDeclined : ℕ → Type 0
NotDeclined n = n ≡ 0

-- what a check says of the number that is answered: it passes, and the later ones decide, or it does not, and its number is given
pub data Check (number : ℕ) (Passes : Type 0) (Later : ℕ → Type 0) (n : ℕ) : Type 0 where
  passes : Passes → Later n → Check number Passes Later n
  declines : (Passes → ⊥) → n ≡ number → Check number Passes Later n

-- 1: the pixel part is 48 bytes long
abbrev pub PixelsChecked : List ℕ → (ℕ → Type 0) → ℕ → Type 0
PixelsChecked px Later = Check 1 (length px ≡ 48) Later

-- 2: the block part is 16 bytes long
abbrev pub BlockChecked : List ℕ → (ℕ → Type 0) → ℕ → Type 0
BlockChecked block Later = Check 2 (length block ≡ 16) Later

-- 3 to 6: the mode is 1 or 3, and partition, channels and fixed p-bits are within its row of the table
abbrev pub CandidateChecked : Candidate → (ℕ → Type 0) → ℕ → Type 0
CandidateChecked c Later =
    let row : Limits = limits_for c.mode limits in
    Check 3 ((c.mode ≡ 1) ⊎ (c.mode ≡ 3))
    (Check 4 (c.partition < row.partitions)
    (Check 5 ((k : ℕ) → k < row.ends → (j : ℕ) → j < row.channels → channel j (get_or (without_alpha c.ends) k clear) < row.channel)
    (Check 6 (BitsWithin row.bits c.p) Later)))

-- 7: every index is within its row
abbrev pub IndicesChecked : ℕ → List ℕ → (ℕ → Type 0) → ℕ → Type 0
IndicesChecked mode is Later = Check 7 ((i : ℕ) → i < length is → get_or is i 0 < (limits_for mode limits).index) Later

-- 8 and 9: byte 0 of the block to be read is not zero, and its lowest bits are 10, which is mode 1, or 1000, which is mode 3
abbrev pub ReadableChecked : List ℕ → (ℕ → Type 0) → ℕ → Type 0
ReadableChecked block Later =
    Check 8 (0 < get_or block 0 0)
    (Check 9 ((get_or block 0 0 % 4 ≡ 2) ⊎ (get_or block 0 0 % 16 ≡ 8)) Later)
