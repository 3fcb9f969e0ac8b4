-- What answers stand for, worked by hand.
use Rattle.std.specs.Prelude.{◌≡◌, [], ◌∷◌, Ok, Err, replicate}
use Rattle.refusals.specs.declared.Refusal.TheVariants.{PixelPart, PBits, Reserved}
use Rattle.bptc_block.specs.Answers as A

-- what each definition gives
pub record AnswersWorked : Type 0 where
  -- finished with an error of 7
  pub finished : A.finished (Ok 7) ≡ record { refusal = 0; error = 7 }
  -- a candidate that is declined for its p-bits
  pub not_finished : A.finished (Err PBits) ≡ record { refusal = 6; error = 0 }
  -- measured with an error of 7
  pub measured : A.measured (Ok 7) ≡ record { refusal = 0; error = 7 }
  -- pixels that are not 48 bytes
  pub not_measured : A.measured (Err PixelPart) ≡ record { refusal = 1; error = 0 }
  -- a block of mode 3 with four different endpoints
  pub read :
      A.block_read
      (Ok (record {
        mode = 3;
        fields =
            record {
              partition = 9;
              ends =
                  record { r = 1; g = 2; b = 3 }
                  ∷ record { r = 4; g = 5; b = 6 }
                  ∷ record { r = 7; g = 8; b = 9 }
                  ∷ record { r = 10; g = 11; b = 12 }
                  ∷ [];
              p = 5;
              indices = 0 ∷ 1 ∷ 2 ∷ 3 ∷ replicate 12 1;
            };
      }))
      ≡ record {
        refusal = 0;
        mode = 3;
        partition = 9;
        ends =
            record { r = 1; g = 2; b = 3 }
            ∷ record { r = 4; g = 5; b = 6 }
            ∷ record { r = 7; g = 8; b = 9 }
            ∷ record { r = 10; g = 11; b = 12 }
            ∷ [];
        p = 5;
        indices = 0 ∷ 1 ∷ 2 ∷ 3 ∷ replicate 12 1;
      }
  -- a reserved block
  pub not_read :
      A.block_read (Err Reserved)
      ≡ record {
        refusal = 8;
        mode = 0;
        partition = 0;
        ends = replicate 4 (record { r = 0; g = 0; b = 0 });
        p = 0;
        indices = replicate 16 0;
      }
