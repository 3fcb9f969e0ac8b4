-- Definitions that no demand reaches: the Rust's steps over a mode's record, for any number of subsets.
pub mod Indexes
pub mod Swaps
pub mod Merge
