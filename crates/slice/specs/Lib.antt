pub mod Outside
pub mod Printing
pub mod Schedule
pub mod Replays
