pub mod Line
pub mod Options
pub mod Commands
pub mod Worked
