-- Definitions that no demand reaches: colours of three channels, as the code has them, and what its search and its tables are made of.
pub mod Colour
pub mod Shown
pub mod Palette
pub mod Nearest
pub mod Pixels
pub mod Masks
pub mod Closest
