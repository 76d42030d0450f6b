pub mod Kept
pub mod Pairs
pub mod Rows
pub mod Shares
pub mod Table
