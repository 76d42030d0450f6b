pub mod Ranges
pub mod Lines
pub mod LineMeaning
pub mod Texts
pub mod Writing
pub mod Reading
pub mod ScriptLines
