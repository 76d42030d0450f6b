mod KeptLines
mod Accepted
mod LineLengths
pub mod CutJournals
pub mod Heads
