pub mod HalfBytes
pub mod FewBits
