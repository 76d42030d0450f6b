pub mod RepeatLemmas
pub mod RepeatExample
pub mod StretchLemmas
pub mod PartLaws
pub mod EvenShareLemmas
