pub mod Fault
pub mod Number
pub mod Marking
pub mod Steps
pub mod Reading
pub mod Strings
pub mod Wanted
