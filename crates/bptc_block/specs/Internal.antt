-- Definitions that no demand reaches: fields and candidates in the code's numbers, and their places in a block's.
pub mod Words
pub mod Front
pub mod Places
pub mod Swaps
pub mod Order
pub mod RgbChecks
