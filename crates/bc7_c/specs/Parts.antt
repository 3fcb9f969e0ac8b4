-- The lent parts that hold more than a call's pixels and blocks: a chooser, and the fields of a reading.
use Rattle.std.specs.Prelude.{ℕ, List, [], ◌∷◌, ◌++◌, take, drop}
use Rattle.lists.specs.Bytes.{bytes, number}
use Rattle.bptc.specs.Internal.Colour.{bytes_of}
use Rattle.bptc_block.specs.Answers.{BlockRead}
use Rattle.chooser.specs.declared.Chooser.{Chooser}

-- the 68 bytes of a chooser: its pixels, its block and its error, lowest byte first
unfoldable pub chooser_bytes : Chooser → List ℕ
chooser_bytes ch = ch.pixels ++ (ch.block ++ bytes 4 ch.error)

-- the chooser that such bytes stand for
unfoldable pub chooser_in : List ℕ → Chooser
chooser_in part = record { pixels = take 48 part; block = take 16 (drop 48 part); error = number (drop 64 part) }

-- the fields of a reading before its indices: mode, partition, four endpoints and p-bits
unfoldable pub head_bytes : BlockRead → List ℕ
head_bytes r = r.mode ∷ (r.partition ∷ (bytes_of r.ends ++ (r.p ∷ [])))

-- the 31 bytes of its fields
unfoldable pub field_bytes : BlockRead → List ℕ
field_bytes r = head_bytes r ++ r.indices
