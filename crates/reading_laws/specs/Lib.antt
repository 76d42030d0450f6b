pub mod Repeats
pub mod RepeatExamples
pub mod Stretches
pub mod EvenShares
