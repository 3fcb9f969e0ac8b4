pub mod Cutting
pub mod Inverse
pub mod Places
