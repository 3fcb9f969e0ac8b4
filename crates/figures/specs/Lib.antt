pub mod Row
pub mod Figures
pub mod Worst
pub mod Entries
pub mod Worked
