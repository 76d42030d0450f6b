pub mod Escapes
pub mod Replies
pub mod Frames
pub mod ReadBack
pub mod Messages
