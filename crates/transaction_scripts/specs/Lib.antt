pub mod LoneScripts
pub mod LoneBytes
pub mod AnyPlan
pub mod SiteBoards
