-- bc7.rs: BitStream, a number of 128 bits and how many of them are written.
use Rattle.std.specs.Prelude.{ℕ, ◌+◌, ◌/◌, ◌%◌, ◌^◌, Bool, List, map}
use Rattle.std.specs.Int.Bits.{bit_or}
use Rattle.lists.specs.Rows.{up_from}
use Rattle.bptc.specs.declared.Rgb.{Rgb}
use Rattle.bptc_rust.specs.Words.{shl, loop}
use Rattle.bptc_rust.specs.Colour.{as_u8}
use Rattle.bptc_rust.specs.CompressedIndexList.{CompressedIndexList}

-- the bits, and their number
pub record BitStream : Type 0 where
  pub «data» : ℕ
  pub bits : ℕ

-- nothing written
abbrev pub new : BitStream
new = record { «data» = 0; bits = 0 }

-- a value of so many bits
unfoldable pub write_u64 : BitStream → ℕ → ℕ → BitStream
write_u64 self value bits = record { «data» = bit_or self.«data» (shl 128 value self.bits); bits = self.bits + bits }

-- a one above as many zeros as the mode says
abbrev pub write_mode : BitStream → ℕ → BitStream
write_mode self mode = write_u64 self (shl 64 1 mode) (mode + 1)

-- the compressed indexes
abbrev pub write_indexes : BitStream → CompressedIndexList → BitStream
write_indexes self indexes = write_u64 self indexes.compressed_indexes indexes.bits

-- all reds, all greens, all blues
abbrev pub write_endpoints_rgb : ℕ → BitStream → List Rgb → BitStream
write_endpoints_rgb B self endpoints =
    let reds : BitStream = loop endpoints self (λ (s : BitStream) (e : Rgb). write_u64 s e.r B) in
    let greens : BitStream = loop endpoints reds (λ (s : BitStream) (e : Rgb). write_u64 s e.g B) in
    loop endpoints greens (λ (s : BitStream) (e : Rgb). write_u64 s e.b B)

-- the p-bits
abbrev pub write_endpoints_p : BitStream → List Bool → BitStream
write_endpoints_p self p = loop p self (λ (s : BitStream) (p : Bool). write_u64 s (as_u8 p) 1)

-- self.data.to_le_bytes(): the lowest byte first
abbrev pub finish : BitStream → List ℕ
finish self = map (λ (i : ℕ). self.«data» / 256 ^ i % 256) (up_from 0 16)
