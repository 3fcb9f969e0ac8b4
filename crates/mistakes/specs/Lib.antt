pub mod Unreadable
pub mod Counts
