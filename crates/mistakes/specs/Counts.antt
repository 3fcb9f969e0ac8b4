-- What the counts of blocks are, in plain numbers.
use Rattle.std.specs.Prelude.{ℕ, ◌+◌, ◌^◌, ◌≤◌, ◌<◌, ◌≡◌, Bool, not, List, [], ◌∷◌, eqb, get_or, length}
use Rattle.lists.specs.Rows.{sum}
use Rattle.lists.specs.Tests.{pick, and}
use Rattle.mistakes.specs.declared.unreadable.Unreadable.{Unreadable}
use Rattle.mistakes.specs.Unreadable.{is_read, no_blocks, counted}

-- how many of a list pass a test
abbrev pub how_many : (ℕ → Bool) → List ℕ → ℕ
how_many test [] = 0
how_many test (m ∷ ms) = pick (test m) 1 0 + how_many test ms

-- a block of mode m is not read
abbrev pub not_read : ℕ → Bool
not_read m = not (is_read m)

-- a block of mode m is not read and has mode k
abbrev pub not_read_of : ℕ → ℕ → Bool
not_read_of k m = and (not_read m) (eqb m k)

-- the counts after a list of modes, counted one after the other
unfoldable pub modes_counted : Unreadable → List ℕ → Unreadable
modes_counted u [] = u
modes_counted u (m ∷ ms) = modes_counted (counted u m) ms

-- counts that are right of a list of modes
pub record CountsOf (modes : List ℕ) (u : Unreadable) : Type 0 where
  -- all blocks, and all that are not read
  pub blocks : u.blocks ≡ length modes
  pub unreadable : u.unreadable ≡ how_many not_read modes
  -- place k of by_mode: those of mode k, where that is not read
  pub each : (k : ℕ) → get_or u.by_mode k 0 ≡ how_many (not_read_of k) modes
  -- the places of by_mode together are all that are not read
  pub together : sum u.by_mode ≡ u.unreadable

-- counting from none gives the counts of any list of modes that is not too long to be counted
abbrev pub CountsRight : Type 0
CountsRight =
    (modes : List ℕ) → ((i : ℕ) → get_or modes i 0 ≤ 8) → length modes < 2 ^ 64 → CountsOf modes (modes_counted no_blocks modes)
