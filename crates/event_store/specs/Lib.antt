pub mod Links
pub mod Store
pub mod Slots
