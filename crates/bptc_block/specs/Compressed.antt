-- Compressed: a block and its error, under the Rust's name.
use Rattle.std.specs.Prelude.{ℕ, List}

pub record Compressed : Type 0 where
  pub block : List ℕ
  pub error : ℕ
