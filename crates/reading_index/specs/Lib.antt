pub mod Ranks
pub mod Timed
