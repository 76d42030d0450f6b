pub mod Ranges
pub mod Script
pub mod Drafts
pub mod Running
pub mod Detail
pub mod Received
pub mod State
