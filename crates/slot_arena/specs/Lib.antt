pub mod Arena
pub mod Free
pub mod Lent
pub mod LentSlot
pub mod LentValue
pub mod Owned
pub mod Place
pub mod Slots
