pub mod Comments
pub mod Ends
pub mod HeadLaw
pub mod SimulatedPlan
pub mod Submitted
