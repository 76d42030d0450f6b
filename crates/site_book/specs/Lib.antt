pub mod Prefix
pub mod Book
pub mod Tables
pub mod Rule
pub mod Sums
pub mod Kept
