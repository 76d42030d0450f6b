pub mod Members
pub mod Samples
pub mod EventRequest
