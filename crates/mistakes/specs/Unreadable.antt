-- Blocks of a plate counted by the mode that their first byte says.
use Rattle.std.specs.Prelude.{ℕ, ◌+◌, ◌%◌, ◌^◌, Bool, eqb, get_or, slice_set, replicate}
use Rattle.lists.specs.Tests.{pick, or}
use Rattle.mistakes.specs.declared.unreadable.Unreadable.{Unreadable}

-- whether blocks of a mode are read
abbrev pub is_read : ℕ → Bool
is_read mode = or (eqb mode 1) (eqb mode 3)

-- the counts of no blocks
abbrev pub no_blocks : Unreadable
no_blocks = record { blocks = 0; unreadable = 0; by_mode = replicate 9 0 }

-- one block more of a mode, by the reserved number 8 where it has none
abbrev pub counted : Unreadable → ℕ → Unreadable
counted u mode = record {
  blocks = (u.blocks + 1) % 2 ^ 64;
  unreadable = pick (is_read mode) u.unreadable ((u.unreadable + 1) % 2 ^ 64);
  by_mode = pick (is_read mode) u.by_mode (slice_set u.by_mode mode ((get_or u.by_mode mode 0 + 1) % 2 ^ 64));
}
