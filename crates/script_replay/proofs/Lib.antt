mod AnsweredLines
pub mod AdmissibleLines
pub mod Flushes
pub mod Faults
mod Lists
pub mod ReachedStations
pub mod ScriptRuns
pub mod SiteSums
pub mod LiveEvents
pub mod Delivers
