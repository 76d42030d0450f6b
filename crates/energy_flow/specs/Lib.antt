pub mod Flow
pub mod Work
