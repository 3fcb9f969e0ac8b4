-- Demand 2 of `finish`: for every sixteen pixels and every candidate in range, block and error are those of the Rust's steps.
use Rattle.std.specs.Prelude.{ℕ, ◌+◌, ◌*◌, ◌≡◌, List, map, eqb, get_or, length}
use Rattle.lists.specs.Tests.{pick}
use Rattle.lists.specs.Rows.{up_from}
use Rattle.lists.specs.Bytes.{Bytes}
use Rattle.bptc.specs.declared.Rgb.{Rgb}
use Rattle.bptc_block.specs.declared.Candidate.{Candidate}
use Rattle.bptc_block.specs.Limits.{CandidateInRange}
use Rattle.bptc_block.specs.FinishCall.{finish_of, finish_into}
use Rattle.bptc_block.specs.Compressed.{Compressed}
use Rattle.bptc_rust.specs.Encode.{compress_mode1, compress_mode3}

-- pixel i of 48 bytes, by the places of its bytes
abbrev pub pixel_of_bytes : List ℕ → ℕ → Rgb
pixel_of_bytes px i = record { r = get_or px (i * 3) 0; g = get_or px (i * 3 + 1) 0; b = get_or px (i * 3 + 2) 0 }

-- the Rust's steps on sixteen pixels, which have three bytes each, and a candidate
unfoldable pub rust_of : List ℕ → Candidate → Compressed
rust_of px c =
    pick (eqb c.mode 1)
    (compress_mode1 c.partition c.ends c.p (map (pixel_of_bytes px) (up_from 0 16)))
    (compress_mode3 c.partition c.ends c.p (map (pixel_of_bytes px) (up_from 0 16)))

-- such pixels and candidates are not declined: the answer has the Rust's error, and a part of 16 bytes then holds the Rust's block
abbrev pub Demand2 : Type 0
Demand2 =
    (px : List ℕ) (c : Candidate) (part : List ℕ) → Bytes px → length px ≡ 48 → CandidateInRange c → length part ≡ 16 →
    (finish_of px c part ≡ record { refusal = 0; error = (rust_of px c).error }) × (finish_into px c part ≡ (rust_of px c).block)
