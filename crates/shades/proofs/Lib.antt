pub mod Quotients
pub mod First
pub mod Reached
pub mod Scales
pub mod Triples
pub mod Worked
