-- `key_numbers::rows::numbers_of` meets its contract.
use Rattle.std.proofs.Common.{ℕ, ◌/◌, ◌%◌, List, get_or, ap, ◌∙◌, arith}
use Rattle.bptc.specs.Internal.Pixels.{pixel_of}
use Rattle.key_numbers.specs.Numbers.{numbers_of}
use Rattle.key_numbers.proofs.Made.{numbers_indexed}
use Rattle.key_numbers.proofs.rows.numbers_of.Goals as goal

pub returns : goal.returns
returns c =
    c.numbers.ensures
    ∙ numbers_indexed 8 16 (λ (k : ℕ). pixel_of (get_or c.flat.result k 0)) (λ (k : ℕ). k / 1 % 8) (λ (k : ℕ). k % 8) (λ k h. omega arith)
    ∙ ap (λ (ws : List ℕ). numbers_of 8 16 (λ (k : ℕ). pixel_of (get_or ws k 0)) (λ (k : ℕ). k % 8)) c.flat.ensures
