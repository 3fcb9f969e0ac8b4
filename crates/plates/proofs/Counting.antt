-- The modes of the blocks of a part of a plate, and the blocks counted one after the other.
use Rattle.std.proofs.Common.{ℕ, zero, suc, ◌+◌, ◌*◌, ◌/◌, ◌<◌, ◌≤◌, ◌≡◌, refl, ap, ◌∙◌, List, ◌++◌, length, length-append, length-drop, get_or, get_or-drop, get_or-take, take, drop, arith}
use lib.ListN.{get_or-append}
use lib.Seq.{drop-append_seam, length-take-le}
use Rattle.std.specs.Int.{trailing_zeros, w8}
use Rattle.mistakes.specs.declared.unreadable.Unreadable.{Unreadable}
use Rattle.mistakes.specs.Unreadable.{counted}
use Rattle.mistakes.specs.Counts.{modes_counted}
use Rattle.plates.specs.Counting.{modes_from, modes_in, PartsTold}
use Rattle.plates.proofs.Readable.{mode_tells}

-- n blocks have n modes
modes_many : (n : ℕ) (blocks : List ℕ) → length (modes_from n blocks) ≡ n
modes_many zero blocks = refl
modes_many (suc n) blocks = ap suc (modes_many n (drop 16 blocks))

-- mode k is said by byte 16 k
mode_at : (n k : ℕ) (blocks : List ℕ) → k < n → get_or (modes_from n blocks) k 0 ≡ trailing_zeros w8 (get_or blocks (16 * k) 0)
mode_at zero k blocks h = absurd (omega arith)
mode_at (suc n) zero blocks h = refl
mode_at (suc n) (suc k) blocks h =
    let next : 16 * suc k ≡ 16 + 16 * k = omega arith in
    rw (next, ← get_or-drop 16 blocks (16 * k) 0) (mode_at n k (drop 16 blocks) (omega arith))

-- the modes of a part tell the refusals of its blocks
pub parts_told : PartsTold
unfolding modes_in
parts_told blocks bytes = record {
  many = modes_many (length blocks / 16) blocks;
  each = λ k px h long.
      let block : List ℕ = take 16 (drop (16 * k) blocks) in
      let inside : 16 * k + 16 ≤ length blocks = omega arith in
      let whole : length block ≡ 16 = length-take-le 16 (drop (16 * k) blocks) (simp length-drop (omega arith)) in
      let first : get_or block 0 0 ≡ get_or blocks (16 * k) 0 =
      get_or-take 16 (drop (16 * k) blocks) 0 0 (omega arith)
      ∙ get_or-drop (16 * k) blocks 0 0 ∙ ap (λ (i : ℕ). get_or blocks i 0) (omega arith) in
      let small : get_or block 0 0 < 256 = rw first (bytes (16 * k) (omega arith)) in
      rw (mode_at (length blocks / 16) k blocks h, ← first) (mode_tells block px small whole long);
}

-- counting a block and those behind it is counting the block first
pub counted_next : (u : Unreadable) (blocks first later : List ℕ) → blocks ≡ first ++ later → length first ≡ 16 →
    modes_counted u (modes_in blocks) ≡ modes_counted (counted u (trailing_zeros w8 (get_or first 0 0))) (modes_in later)
unfolding modes_in modes_counted
counted_next u blocks first later e h =
    let many : length (first ++ later) / 16 ≡ suc (length later / 16) = rw length-append (omega arith) in
    let byte : get_or (first ++ later) 0 0 ≡ get_or first 0 0 = get_or-append first later 0 0 (omega arith) in
    let behind : drop 16 (first ++ later) ≡ later = rw h at (drop-append_seam first later) in
    rw (e, many, byte, behind)

-- where less than a block is left, no block is counted
pub no_blocks : (u : Unreadable) (blocks : List ℕ) → length blocks < 16 → modes_counted u (modes_in blocks) ≡ u
unfolding modes_in modes_counted
no_blocks u blocks h =
    let none : length blocks / 16 ≡ 0 = omega arith in
    rw none
