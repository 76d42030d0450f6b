pub mod Rising
mod Keys
pub mod Places
pub mod Found
