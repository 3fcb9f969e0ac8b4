pub mod Places
pub mod Joining
pub mod RowKeys
pub mod Telling
pub mod Nearest
