pub mod Ordered
pub mod Pooled
pub mod Ports
pub mod Replied
pub mod Replies
pub mod Reading
