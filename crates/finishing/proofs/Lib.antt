pub mod Lacking
pub mod Kept
pub mod Finished
pub mod Given
