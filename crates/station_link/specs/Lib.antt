pub mod Answer
pub mod Session
pub mod Request
pub mod Sim
pub mod Moment
pub mod Exchange
pub mod Attended
