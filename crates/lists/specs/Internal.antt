-- Definitions that no demand reaches.
pub mod Fields
pub mod Ones
