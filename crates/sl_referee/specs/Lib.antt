pub mod Cases
pub mod Dockets
pub mod Notes
pub mod Stops
