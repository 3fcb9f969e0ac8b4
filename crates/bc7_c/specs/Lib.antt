pub mod Numbers
pub mod Masks
pub mod Parts
pub mod Calls
pub mod Answer
pub mod Held
pub mod Worked
