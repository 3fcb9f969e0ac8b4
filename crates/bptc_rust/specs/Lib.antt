-- The Rust's steps from pixels and a candidate to a block, each function under its own name (with - for _) and in its own order.
-- A const parameter (B, I, W) is an argument, an array is a list, and what a method changes in `self` it hands back.
pub mod Words
pub mod Subset2Map
pub mod Colour
pub mod Palette
pub mod PBits
pub mod IndexList
pub mod CompressedIndexList
pub mod BitStream
pub mod Compressed
pub mod Closest
pub mod PBitHandling
pub mod Encode
pub mod Packs
pub mod Demand2
pub mod Internal
