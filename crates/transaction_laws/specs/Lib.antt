pub mod Alone
pub mod Transcript
pub mod Stations
pub mod BoardSums
pub mod SiteSums
pub mod Examples
