pub mod Asking
pub mod Browsing
pub mod Responses
pub mod Seated
pub mod Told
