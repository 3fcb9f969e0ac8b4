pub mod Tests
pub mod Rows
pub mod Parts
pub mod Least
pub mod Digits
pub mod Bits
pub mod Bytes
pub mod Internal
