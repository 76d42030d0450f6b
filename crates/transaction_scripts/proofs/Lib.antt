pub mod LoneWorlds
pub mod LoneSteps
pub mod LoneTexts
pub mod AnyPlans
pub mod SiteTexts
pub mod AllStay
