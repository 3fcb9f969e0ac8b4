-- bc7.rs: Compressed::mode1 and Compressed::mode3.
use Rattle.std.specs.Prelude.{ℕ, Bool, false, List}
use Rattle.lists.specs.Tests.{pick}
use Rattle.bptc.specs.declared.Rgb.{Rgb}
use Rattle.bptc.specs.Colour.{clear, rgb_of}
use Rattle.bptc_block.specs.Compressed.{Compressed}
use Rattle.bptc_rust.specs.Words.{swap}
use Rattle.bptc_rust.specs.Subset2Map.{Subset2Map, PARTITION-SET-2}
use Rattle.bptc_rust.specs.CompressedIndexList.{compress_p2}
use Rattle.bptc_rust.specs.BitStream.{BitStream, new, write_mode, write_u64, write_endpoints_rgb, write_endpoints_p, write_indexes, finish}

-- a block of mode 1
unfoldable pub mode1 : ℕ → ℕ → List Rgb → List Bool → ℕ → Compressed
mode1 error partition rgb p indexes =
    let subset : Subset2Map = PARTITION-SET-2 partition in
    let (indexes, swap0, swap1) = compress_p2 3 indexes subset in
    let rgb1 : List Rgb = pick swap0 (swap (rgb_of clear) rgb 0 1) rgb in
    let rgb2 : List Rgb = pick swap1 (swap (rgb_of clear) rgb1 2 3) rgb1 in
    let s1 : BitStream = write_mode new 1 in
    let s2 : BitStream = write_u64 s1 partition 6 in
    let s3 : BitStream = write_endpoints_rgb 6 s2 rgb2 in
    let s4 : BitStream = write_endpoints_p s3 p in
    let s5 : BitStream = write_indexes s4 indexes in
    record { block = finish s5; error = error }

-- a block of mode 3
unfoldable pub mode3 : ℕ → ℕ → List Rgb → List Bool → ℕ → Compressed
mode3 error partition rgb p indexes =
    let subset : Subset2Map = PARTITION-SET-2 partition in
    let (indexes, swap0, swap1) = compress_p2 2 indexes subset in
    let rgb1 : List Rgb = pick swap0 (swap (rgb_of clear) rgb 0 1) rgb in
    let p1 : List Bool = pick swap0 (swap false p 0 1) p in
    let rgb2 : List Rgb = pick swap1 (swap (rgb_of clear) rgb1 2 3) rgb1 in
    let p2 : List Bool = pick swap1 (swap false p1 2 3) p1 in
    let s1 : BitStream = write_mode new 3 in
    let s2 : BitStream = write_u64 s1 partition 6 in
    let s3 : BitStream = write_endpoints_rgb 7 s2 rgb2 in
    let s4 : BitStream = write_endpoints_p s3 p2 in
    let s5 : BitStream = write_indexes s4 indexes in
    record { block = finish s5; error = error }
