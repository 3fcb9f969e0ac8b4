-- What answers of a row of blocks and places among the worst stand for, worked by hand.
use Rattle.std.specs.Prelude.{ℕ, ◌≡◌, Ok, Err, None}
use Rattle.refusals.specs.declared.Refusal.TheVariants.{Reserved, OtherMode}
use Rattle.figures.specs.Row.{row_in, refusal_in}
use Rattle.figures.specs.Entries.{key_in}

-- what each definition gives
pub record Worked : Type 0 where
  -- four blocks, none declined
  pub whole_row : row_in 4 (Ok tt) ≡ record { refusal = 0; at = 4 }
  -- the third of them reserved
  pub declined_row : row_in 4 (Err (record { refusal = Reserved; at = 2 })) ≡ record { refusal = 8; at = 2 }
  -- one block with an error of 7, and one of another mode
  pub block : refusal_in {T = ℕ} (Ok 7) ≡ 0
  pub declined_block : refusal_in {T = ℕ} (Err OtherMode) ≡ 9
  -- a place without a block
  pub no_block : key_in None ≡ 0
