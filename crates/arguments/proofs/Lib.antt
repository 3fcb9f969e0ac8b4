pub mod Words
pub mod Given
pub mod Once
pub mod Said
pub mod Values
pub mod Worked
