pub mod Mixing
pub mod Subsets
pub mod BestOfFour
pub mod Picking
pub mod ChoiceKeys
pub mod ChoicePicking
