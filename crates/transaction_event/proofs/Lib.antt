pub mod Growing
pub mod Integers
pub mod Replies
pub mod Deliveries
pub mod AdmissibleRequests
