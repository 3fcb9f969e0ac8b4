-- The mode by which a plate's blocks are named and counted, held to the refusal that a call has for the block.
use Rattle.std.specs.Prelude.{ℕ, ◌+◌, ◌%◌, ◌^◌, ◌≤◌, ◌<◌, ◌≡◌, true, false, List, get_or, length}
use Rattle.std.specs.Int.{trailing_zeros, w8}
use Rattle.bptc_block.specs.ReadCall.{read_refusal}
use Rattle.mistakes.specs.Unreadable.{is_read}

-- what the mode said of a block tells: of its byte 0, and the refusal with which it is read, always one of the last three
pub record ToldByMode (byte mode refusal : ℕ) : Type 0 where
  -- a mode is the place of the byte's lowest one bit
  pub lowest : mode < 8 → byte % 2 ^ (mode + 1) ≡ 2 ^ mode
  -- 8, the reserved number, is said of the byte 0 alone, and no greater number of any
  pub none : mode ≡ 8 → byte ≡ 0
  pub most : mode ≤ 8
  -- a mode that is read is not declined
  pub read : is_read mode ≡ true → refusal ≡ 0
  -- the reserved number is declined by check 8
  pub reserved : mode ≡ 8 → refusal ≡ 8
  -- every other mode is declined by check 9
  pub other : is_read mode ≡ false → mode < 8 → refusal ≡ 9

-- the mode of every block of sixteen bytes tells its refusal, whatever the 48 bytes that it is to be read into
abbrev pub ModeTells : Type 0
ModeTells =
    (block px : List ℕ) → get_or block 0 0 < 256 → length block ≡ 16 → length px ≡ 48 →
    ToldByMode (get_or block 0 0) (trailing_zeros w8 (get_or block 0 0)) (read_refusal block px)
