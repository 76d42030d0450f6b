pub mod Left
pub mod Served
pub mod Simulated
