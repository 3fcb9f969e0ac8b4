pub mod Found
pub mod Pick
pub mod Nearest
