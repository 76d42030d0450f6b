pub mod Speaking
pub mod Journals
pub mod Head
pub mod Cuts
pub mod OneScript
pub mod Restoring
pub mod Reading
pub mod Place
