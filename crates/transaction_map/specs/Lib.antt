pub mod Map
pub mod Places
pub mod Kept
