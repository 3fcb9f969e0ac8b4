pub mod Shade
pub mod Worked
