pub mod KeySums
pub mod FirstKey
