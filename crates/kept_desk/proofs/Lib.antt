mod Moves
pub mod Written
mod Lines
pub mod Left
pub mod Received
pub mod Names
mod Notes
mod Behind
pub mod Fronts
