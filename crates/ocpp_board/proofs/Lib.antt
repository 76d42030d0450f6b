pub mod Limits
pub mod Words
mod CommandLine
mod Rows
mod Runs
