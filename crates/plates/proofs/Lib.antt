pub mod Readable
pub mod Counting
