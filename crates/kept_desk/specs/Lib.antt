pub mod Entries
pub mod Speaking
pub mod Journal
pub mod Rule
pub mod Held
pub mod Opened
pub mod Kept
