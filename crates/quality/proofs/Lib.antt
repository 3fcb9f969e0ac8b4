pub mod Rounding
pub mod Squares
pub mod Bits
pub mod Falling
pub mod Powers
pub mod Bounds
pub mod Decibels
pub mod Worked
