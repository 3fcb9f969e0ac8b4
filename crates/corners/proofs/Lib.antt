pub mod Boxing
pub mod Faces
