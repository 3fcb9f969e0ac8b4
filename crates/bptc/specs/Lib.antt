pub mod Mode
pub mod Partition
pub mod Colour
pub mod Shown
pub mod Palette
pub mod Internal
