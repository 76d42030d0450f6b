pub mod Prefixes
pub mod Moves
pub mod Named
pub mod Totals
pub mod Books
