pub mod Ranked
pub mod Listed
