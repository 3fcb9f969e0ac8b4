-- The modes of the blocks of a part of a plate.
use Rattle.std.specs.Prelude.{ℕ, zero, suc, ◌*◌, ◌/◌, ◌<◌, ◌≡◌, List, [], ◌∷◌, get_or, length, take, drop}
use Rattle.std.specs.Int.{trailing_zeros, w8}
use Rattle.lists.specs.Bytes.{Bytes}
use Rattle.bptc_block.specs.ReadCall.{read_refusal}
use Rattle.plates.specs.Readable.{ToldByMode}

-- the modes of n blocks of sixteen bytes
abbrev pub modes_from : ℕ → List ℕ → List ℕ
modes_from zero blocks = []
modes_from (suc n) blocks = trailing_zeros w8 (get_or blocks 0 0) ∷ modes_from n (drop 16 blocks)

-- the modes of all blocks of a part, by the byte 0 of each
unfoldable pub modes_in : List ℕ → List ℕ
modes_in blocks = modes_from (length blocks / 16) blocks

-- the modes of a part are those of its blocks: block k is the sixteen bytes from byte 16 k on, and mode k tells its refusal
pub record PartTold (blocks : List ℕ) : Type 0 where
  pub many : length (modes_in blocks) ≡ length blocks / 16
  pub each : (k : ℕ) (px : List ℕ) → k < length blocks / 16 → length px ≡ 48 →
      ToldByMode (get_or blocks (16 * k) 0) (get_or (modes_in blocks) k 0) (read_refusal (take 16 (drop (16 * k) blocks)) px)

-- the modes of every part of a plate are those of its blocks
abbrev pub PartsTold : Type 0
PartsTold = (blocks : List ℕ) → Bytes blocks → PartTold blocks
