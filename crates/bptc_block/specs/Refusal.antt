-- The numbers of the refusals, in the order in which every call makes its checks. 0 is no refusal.
use Rattle.std.specs.Prelude.{ℕ, ◌^◌, Bool, true, false, List, ltb, eqb, get_or}
use Rattle.lists.specs.Tests.{all}
use Rattle.bptc.specs.Mode.{Mode, mode_numbered, p_bits}
use Rattle.bptc_block.specs.declared.PBits.{PBits}
use Rattle.bptc_block.specs.declared.PBits.TheVariants.{Free, Fixed}
use Rattle.bptc_block.specs.declared.Candidate.{Candidate}
use Rattle.bptc_block.specs.RgbaCandidate.{RgbaCandidate, rgba_candidate}
use Rattle.bptc_block.specs.Fields.{channel_values}
use Rattle.bptc_block.specs.Packed.{mode_of}

-- one check: its number where the test fails, and else what the later checks give
abbrev pub unless : Bool → ℕ → ℕ → ℕ
unless true k rest = rest
unless false k rest = k

-- 1: a pixel part of so many bytes is 48 bytes long
abbrev pub check_pixels : ℕ → ℕ → ℕ
check_pixels bytes rest = unless (eqb bytes 48) 1 rest

-- 2: a block part of so many bytes is 16 bytes long
abbrev pub check_block : ℕ → ℕ → ℕ
check_block bytes rest = unless (eqb bytes 16) 2 rest

-- the number of a mode: the mode of a number has that number
abbrev pub is_mode : ℕ → Bool
is_mode n = eqb (mode_numbered n).number n

-- every number of a list is below a limit
abbrev pub below : ℕ → List ℕ → Bool
below top vs = all (λ (v : ℕ). ltb v top) vs

-- free p-bits, or fixed ones below a limit
abbrev pub p_below : ℕ → PBits → Bool
p_below top Free = true
p_below top (Fixed p) = ltb p top

-- 3 to 6: the mode, the partition, the endpoint channels that the mode looks at, and the p-bits
unfoldable pub check_rgba : RgbaCandidate → ℕ → ℕ
check_rgba c rest =
    let m : Mode = mode_numbered c.mode in
    unless (is_mode c.mode) 3
    (unless (ltb c.partition (2 ^ m.partition_bits)) 4
    (unless (below (2 ^ m.channel_bits) (channel_values m c.ends)) 5
    (unless (p_below (2 ^ p_bits m) c.p) 6 rest)))

-- 3 to 6, of a candidate of three channels
abbrev pub check_candidate : Candidate → ℕ → ℕ
check_candidate c rest = check_rgba (rgba_candidate c) rest

-- 7: every index is below the mode's limit
abbrev pub check_indices : ℕ → List ℕ → ℕ → ℕ
check_indices mode is rest = unless (below (2 ^ (mode_numbered mode).index_bits) is) 7 rest

-- 8 and 9: the block to be read has a mode, and the calls answer for it
abbrev pub check_readable : List ℕ → ℕ → ℕ
check_readable block rest = unless (ltb 0 (get_or block 0 0)) 8 (unless (is_mode (mode_of block)) 9 rest)
