pub mod Declined
pub mod Showing
pub mod Counting
pub mod Carrying
pub mod Keys
pub mod Entries
pub mod Worked
