pub mod Grid
pub mod Gathering
pub mod Standing
pub mod Inverse
pub mod Places
