-- Laws of the pixels that a row of blocks shows.
use Prim.Native.Nat.{ℕ, zero, suc, ◌+◌, ◌*◌, ◌<◌}
use native.Mathlib.Omega.{arith}
use mathlib.Core.Path.{◌≡◌, refl, ap, ◌∙◌}
use mathlib.Core.List.{List, ◌∷◌, ◌++◌, map}
use lib.ListN.{length, drop, replicate}
use borrow.Rule.Slice.PartMut.{put_mid}
use Rattle.lists.specs.Rows.{up_from}
use Rattle.lists.specs.Parts.{part_at}
use Rattle.lists.proofs.Rows.{each_same}
use Rattle.lists.proofs.Parts.{Wide, part_length, joined_at, joined-next, joined_rest, joined-all}
use Rattle.bptc_block.specs.Answers.{Measured}
use Rattle.bptc_block.specs.ReadCall.{read_of, read_into}
use Rattle.bptc_block.specs.MeasureCall.{measure_of}
use Rattle.bptc_block.proofs.ReadCall.{read_number, read_length}
use Rattle.bptc_block.proofs.Distance.{measured-read}
use Rattle.figures.specs.Row.{measured_at, errors_of, refusal_at, shown_at, shown_of, first_of, ShownExactly}

-- the groups while k blocks are read
abbrev pub shown_to : List ℕ → List ℕ → ℕ → List ℕ
shown_to blocks groups k = shown_of blocks groups k ++ drop (k * 48) groups

module _ (blocks groups : List ℕ) (n : ℕ) (own : length groups ≡ 48 * n) where
  -- each group keeps its length
  wide : Wide 48 (shown_at blocks groups) n
  unfolding shown_at
  wide k h = read_length (part_at 16 k blocks) (part_at 48 k groups) ∙ part_length 48 groups n (omega arith) k h

  module _ (k : ℕ) (h : k < n) where
    before : Wide 48 (shown_at blocks groups) k
    before i l = wide i (omega arith)

    -- one block more
    pub shown_next :
        put_mid (k * 48) 48 (shown_to blocks groups k) (read_into (part_at 16 k blocks) (part_at 48 k (shown_to blocks groups k)))
        ≡ shown_to blocks groups (k + 1)
    unfolding shown_of shown_at
    shown_next =
        rw (joined_rest 48 (shown_at blocks groups) groups k before) (joined-next 48 (shown_at blocks groups) groups k before)

    -- its refusal
    pub shown_refusal : (read_of (part_at 16 k blocks) (part_at 48 k (shown_to blocks groups k))).refusal ≡ refusal_at blocks groups k
    unfolding shown_of refusal_at
    shown_refusal =
        rw (joined_rest 48 (shown_at blocks groups) groups k before) (read_number (part_at 16 k blocks) (part_at 48 k groups))

    -- the block measured against the pixels that it shows
    shown-measured : measured_at (shown_of blocks groups n) blocks k ≡ record { refusal = refusal_at blocks groups k; error = 0 }
    unfolding measured_at shown_of shown_at refusal_at
    shown-measured =
        ap (measure_of (part_at 16 k blocks)) (joined_at 48 (shown_at blocks groups) n k wide h)
        ∙ measured-read (part_at 16 k blocks) (part_at 48 k groups)

  -- after the last
  pub shown_all : shown_to blocks groups n ≡ shown_of blocks groups n
  unfolding shown_of
  shown_all = joined-all 48 (shown_at blocks groups) groups n (omega arith)

-- the same 0 for each block
zeros : (n m : ℕ) → map {B = ℕ} (λ (k : ℕ). 0) (up_from m n) ≡ replicate n 0
zeros zero m = refl
zeros (suc n) m = ap {B = List ℕ} (λ l. 0 ∷ l) (zeros n (suc m))

-- the row against the pixels that it shows
pub shown_exactly : ShownExactly
unfolding errors_of
shown_exactly blocks groups n own = (
  each_same 0 _ (λ (k : ℕ). 0) n (λ k h. ap (λ (m : Measured). m.error) (shown-measured blocks groups n own k h)) ∙ zeros n 0,
  ap first_of
      (each_same 0 _ (refusal_at blocks groups) n (λ k h. ap (λ (m : Measured). m.refusal) (shown-measured blocks groups n own k h))),
)
