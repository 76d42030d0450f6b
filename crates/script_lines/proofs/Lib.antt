pub mod Pieces
pub mod PartOfLine
pub mod Cuts
pub mod LineWords
pub mod MessageLines
pub mod Numbers
mod WrittenBytes
