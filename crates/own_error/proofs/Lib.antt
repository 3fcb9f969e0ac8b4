pub mod Totals
pub mod Apart
pub mod Pictures
pub mod Cuts
pub mod Blocks
pub mod Rows
pub mod OwnTotal
pub mod Worked
