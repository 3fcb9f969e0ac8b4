pub mod Offers
pub mod Records
pub mod BuiltIn
pub mod Baking
