pub mod Dockets
pub mod Given
pub mod Notes
pub mod Served
pub mod Standing
pub mod Telling
