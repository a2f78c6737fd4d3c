pub mod Arrivals
pub mod Histories
