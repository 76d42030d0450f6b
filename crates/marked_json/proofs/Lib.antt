pub mod Places
pub mod Marks
pub mod Cuts
pub mod Grammar
mod Lanes
pub mod Texts
pub mod StringLaws
pub mod WantedMembers
