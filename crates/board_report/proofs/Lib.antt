pub mod PlanLemmas
pub mod SumLemmas
pub mod SiteBoards
pub mod ClosedSites
pub mod RunningBoards
pub mod Looks
mod Pieces
