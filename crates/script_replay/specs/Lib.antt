pub mod Outcome
pub mod Answering
pub mod Laws
pub mod Whole
pub mod LiveLaws
pub mod DeliverLaws
