mod Belonging
mod Cuts
mod Edits
pub mod Orders
mod Counting
mod Nearest
mod Placing
