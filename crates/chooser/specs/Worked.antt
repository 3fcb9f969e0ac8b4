-- The blocks worked by hand, P1 to P12 and one of a colour with three different channels, as one table, and the test of a row.
use Rattle.std.specs.Prelude.{ℕ, suc, Bool, true, false, List, [], ◌∷◌, ◌++◌, T, eqb, get_or, length, replicate, take}
use Rattle.lists.specs.Tests.{and, all}
use Rattle.lists.specs.Parts.{joined}
use Rattle.bptc.specs.declared.Rgb.{Rgb}
use Rattle.bptc.specs.Mode.{Mode, mode1, mode3, largest}
use Rattle.bptc.specs.Colour.{colour_by, channels}
use Rattle.bptc.specs.Palette.{shade}
use Rattle.bptc_block.specs.declared.PBits.{PBits}
use Rattle.bptc_block.specs.declared.PBits.TheVariants.{Free, Fixed}
use Rattle.bptc_block.specs.declared.Candidate.{Candidate}
use Rattle.bptc_block.specs.declared.Fields.{Fields}
use Rattle.bptc_block.specs.Compressed.{Compressed}
use Rattle.bptc_block.specs.PackCall.{pack_of, pack_into}
use Rattle.bptc_block.specs.FinishCall.{finish_of, finish_into}
use Rattle.bptc_block.specs.ReadCall.{read_of}
use Rattle.chooser.specs.StartCall.{start_of}
use Rattle.chooser.specs.Calls as C
use Rattle.chooser.specs.Calls.{Call, after, held}

-- two lists are the same
abbrev pub same : List ℕ → List ℕ → Bool
same [] [] = true
same [] (y ∷ ys) = false
same (x ∷ xs) [] = false
same (x ∷ xs) (y ∷ ys) = and (eqb x y) (same xs ys)

-- all three channels equal
abbrev pub grey : ℕ → Rgb
grey v = record { r = v; g = v; b = v }

-- a list of so many zeros
abbrev pub zeros : ℕ → List ℕ
zeros n = replicate n 0

-- the zero candidate of a mode, but for endpoint 0 and the p-bits
abbrev pub zero_but : ℕ → Rgb → PBits → Candidate
zero_but mode e p = record { mode = mode; partition = 0; ends = e ∷ replicate 3 (grey 0); p = p }

-- what is done, and what it gives
pub data WorkedRow : Type 0 where
  -- finishing sixteen pixels of this colour: the block and the error
  finishes : Rgb → Candidate → List ℕ → ℕ → WorkedRow
  -- packing this mode and partition, all else zero: the first two bytes
  begins : ℕ → ℕ → List ℕ → WorkedRow
  -- these calls after a start over black pixels: the block and the error held
  holds : List Call → List ℕ → ℕ → WorkedRow
  -- the palette of a mode between 0 and 255: its levels
  shows : Mode → List ℕ → WorkedRow
  -- reading a block with this byte 0: the refusal's number
  declines : ℕ → ℕ → WorkedRow

-- P1 to P12, in order, and the last
unfoldable pub rows : List WorkedRow
rows =
    -- P1, P2, P3: the zero candidates
    finishes (grey 0) (zero_but 1 (grey 0) (Fixed 0)) (0x02 ∷ zeros 15) 0
    ∷ finishes (grey 0) (zero_but 3 (grey 0) (Fixed 0)) (0x08 ∷ zeros 15) 0
    ∷ finishes (grey 255) (zero_but 1 (grey 0) (Fixed 0)) (0x02 ∷ zeros 15) 3121200
    -- P4, P5: endpoint 0 at its largest, in mode 3 with its p-bit
    ∷ finishes (grey 0) (zero_but 1 (grey 63) (Fixed 0)) (0x02 ∷ 0xc0 ∷ 0x0f ∷ 0x00 ∷ 0xc0 ∷ 0x0f ∷ 0x00 ∷ 0xc0 ∷ 0x0f ∷ zeros 7) 0
    ∷ finishes (grey 0) (zero_but 3 (grey 127) (Fixed 1)) (0x08 ∷ 0x00 ∷ 0xfe ∷ 0x00 ∷ 0x00 ∷ 0xe0 ∷ 0x0f ∷ 0x00 ∷ 0x00 ∷ 0xfe ∷ 0x00 ∷ 0x80 ∷ zeros 4) 0
    -- P6, P7: free p-bits
    ∷ finishes (grey 2) (zero_but 1 (grey 0) Free) (0x02 ∷ (zeros 9 ++ (0x03 ∷ zeros 5))) 0
    ∷ finishes (grey 1) (zero_but 1 (grey 0) Free) (0x02 ∷ zeros 15) 48
    -- P8: partition 63
    ∷ begins 1 63 (0xfe ∷ 0x00 ∷ [])
    ∷ begins 3 63 (0xf8 ∷ 0x03 ∷ [])
    -- P9: no candidate
    ∷ holds [] (zeros 16) 4294967295
    -- P10: palettes
    ∷ shows mode3 (0 ∷ 84 ∷ 171 ∷ 255 ∷ [])
    ∷ shows mode1 (0 ∷ 36 ∷ 72 ∷ 108 ∷ 147 ∷ 183 ∷ 219 ∷ 255 ∷ [])
    -- P11: P1's candidate and then P2's
    ∷ holds (C.offer (zero_but 1 (grey 0) (Fixed 0)) ∷ C.offer (zero_but 3 (grey 0) (Fixed 0)) ∷ []) (0x02 ∷ zeros 15) 0
    -- P12: blocks that are not read
    ∷ declines 0x00 8
    ∷ declines 0x01 9
    ∷ declines 0x04 9
    ∷ declines 0x80 9
    -- red 2, green 4 and blue 8, by endpoints that are stored as 1, 2 and 4
    ∷ finishes (record { r = 2; g = 4; b = 8 })
    (record { mode = 3; partition = 0; ends = replicate 4 (record { r = 1; g = 2; b = 4 }); p = Fixed 0 })
    (0x08 ∷ 0x04 ∷ 0x02 ∷ 0x81 ∷ 0x80 ∷ 0x40 ∷ 0x20 ∷ 0x10 ∷ 0x10 ∷ 0x08 ∷ 0x04 ∷ 0x02 ∷ zeros 4) 0
    ∷ []

-- a lent block part, whose bytes are all to be written
abbrev pub lent : List ℕ
lent = replicate 16 255

-- the test of a row, by the definitions of the calls
unfoldable pub check : WorkedRow → Bool
check (finishes x c block error) =
    let px : List ℕ = joined (λ (k : ℕ). x.r ∷ (x.g ∷ (x.b ∷ []))) 16 in
    and (eqb (finish_of px c lent).refusal 0) (and (same (finish_into px c lent) block) (eqb (finish_of px c lent).error error))
check (begins mode part first) =
    let f : Fields = record { partition = part; ends = replicate 4 (grey 0); p = 0; indices = zeros 16 } in
    and (eqb (pack_of mode f lent) 0) (same (take 2 (pack_into mode f lent)) first)
check (holds calls block error) =
    let h : Compressed = held (after (start_of (zeros 48)).chooser calls) lent in
    and (same h.block block) (eqb h.error error)
check (shows m levels) =
    and (eqb (length levels) (suc (largest m)))
    (same (joined (λ (i : ℕ). channels (shade m (colour_by (λ (j : ℕ). 0)) (colour_by (λ (j : ℕ). 255)) i)) (length levels))
    (joined (λ (i : ℕ). replicate 4 (get_or levels i 0)) (length levels)))
check (declines first number) = eqb (read_of (first ∷ zeros 15) (zeros 48)).refusal number

-- every row holds
abbrev pub Worked : Type 0
Worked = T (all check rows)
