pub mod Line
pub mod Decimal
pub mod Words
pub mod Ppm
pub mod Worked
