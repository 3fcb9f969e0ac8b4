pub mod Offering
pub mod Accepting
pub mod Groups
pub mod Baked
pub mod Flags
