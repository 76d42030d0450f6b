pub mod Scaling
pub mod DigitRuns
pub mod Scan
pub mod LastStep
pub mod CalendarDays
pub mod ClockTexts
pub mod GrammarLemmas
pub mod PartsLemmas
