pub mod Maps
pub mod Unstables
pub mod Differing
pub mod Code
pub mod Steps
pub mod Found
pub mod Outcomes
pub mod Performed
