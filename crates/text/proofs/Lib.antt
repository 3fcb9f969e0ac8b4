pub mod WordList
pub mod DecimalText
pub mod PiecesText
pub mod HeaderRead
pub mod Worked
