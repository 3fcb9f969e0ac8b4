-- Blocks among the worst, by their keys.
use Rattle.std.specs.Prelude.{ℕ, Option, Some, None}
use Rattle.figures.specs.declared.entry.Entry.{Entry}
use Rattle.figures.specs.Worst.{key_of, PartsOfKey}

-- the key of a place: 0 where it has no block
abbrev pub key_in : Option Entry → ℕ
key_in None = 0
key_in (Some e) = key_of e.error e.number.0 e.mode e.partition

-- the key of a block gives back its parts
abbrev pub EntryParts : Type 0
EntryParts = (e : Entry) → PartsOfKey (key_in (Some e)) e.error e.number.0 e.mode e.partition
