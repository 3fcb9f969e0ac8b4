pub mod Mean
pub mod Psnr
pub mod Worked
