pub mod Own
pub mod OwnTotal
pub mod Worked
