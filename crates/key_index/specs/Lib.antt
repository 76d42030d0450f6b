pub mod Entries
pub mod Index
pub mod Key
pub mod Leaves
pub mod Marks
pub mod Places
