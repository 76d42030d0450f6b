pub mod Arguments
pub mod LimitWords
pub mod StationWords
pub mod Options
pub mod Commands
pub mod Run
pub mod Serving
