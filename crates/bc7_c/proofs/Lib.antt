pub mod Masked
pub mod Accepted
pub mod PartBytes
pub mod InPart
pub mod AnswerParts
pub mod Worked
