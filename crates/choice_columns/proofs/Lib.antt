pub mod FourSums
pub mod FourColumns
