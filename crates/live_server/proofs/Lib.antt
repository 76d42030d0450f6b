mod Asking
pub mod Browsing
pub mod Told
mod Appended
