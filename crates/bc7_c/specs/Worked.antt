-- What C's numbers and parts stand for, worked by hand as bc7.h has it.
use Rattle.std.specs.Prelude.{◌≡◌, [], ◌∷◌, ◌++◌, Ok, Err, replicate}
use Rattle.refusals.specs.declared.Refusal.TheVariants.{Mode}
use Rattle.bptc_block.specs.declared.PBits.TheVariants.{Free, Fixed}
use Rattle.bc7_c.specs.Numbers.{end_in, indices_of, candidate_of, numbered}
use Rattle.bc7_c.specs.Parts.{chooser_bytes, field_bytes}

-- what each definition gives
pub record Worked : Type 0 where
  -- an endpoint: red + 256 × green + 65536 × blue
  pub endpoint : end_in 0x030201 ≡ record { r = 1; g = 2; b = 3 }
  -- with a bit above its third byte, a channel that no mode has
  pub above : end_in 0x1000000 ≡ record { r = 0; g = 0; b = 256 }
  -- sixteen indices of four bits each, that of pixel 0 lowest
  pub indices :
      indices_of 0xfedcba9876543210
      ≡ 0 ∷ 1 ∷ 2 ∷ 3 ∷ 4 ∷ 5 ∷ 6 ∷ 7 ∷ 8 ∷ 9 ∷ 10 ∷ 11 ∷ 12 ∷ 13 ∷ 14 ∷ 15 ∷ []
  -- a candidate with p-bits that are fixed
  pub fixed :
      candidate_of 3 9 0x030201 0x060504 0x090807 0x0c0b0a 5 0
      ≡ record {
        mode = 3;
        partition = 9;
        ends =
            record { r = 1; g = 2; b = 3 }
            ∷ record { r = 4; g = 5; b = 6 }
            ∷ record { r = 7; g = 8; b = 9 }
            ∷ record { r = 10; g = 11; b = 12 }
            ∷ [];
        p = Fixed 5;
      }
  -- and with free ones
  pub free : candidate_of 1 0 0 0 0 0 5 2 ≡ record { mode = 1; partition = 0; ends = replicate 4 (record { r = 0; g = 0; b = 0 }); p = Free }
  -- an error of 7, and refusal 3, in the upper 32 bits
  pub error : numbered (Ok 7) ≡ 7
  pub refused : numbered (Err Mode) ≡ 0x300000000
  -- the 68 bytes of a chooser: its pixels, the block it holds and its error, lowest byte first
  pub chooser :
      chooser_bytes (record { pixels = replicate 48 7; block = replicate 16 8; error = 0x04030201 })
      ≡ replicate 48 7 ++ (replicate 16 8 ++ (1 ∷ 2 ∷ 3 ∷ 4 ∷ []))
  -- the 31 bytes of fields: mode, partition, red, green and blue of four endpoints, p-bits, sixteen indices
  pub fields :
      field_bytes
      (record {
        refusal = 0;
        mode = 3;
        partition = 9;
        ends =
            record { r = 1; g = 2; b = 3 }
            ∷ record { r = 4; g = 5; b = 6 }
            ∷ record { r = 7; g = 8; b = 9 }
            ∷ record { r = 10; g = 11; b = 12 }
            ∷ [];
        p = 5;
        indices = 0 ∷ 1 ∷ 2 ∷ 3 ∷ replicate 12 1;
      })
      ≡ 3 ∷ 9 ∷ 1 ∷ 2 ∷ 3 ∷ 4 ∷ 5 ∷ 6 ∷ 7 ∷ 8 ∷ 9 ∷ 10 ∷ 11 ∷ 12 ∷ 5 ∷ 0 ∷ 1 ∷ 2 ∷ 3 ∷ replicate 12 1
