pub mod Ledgers
pub mod Replies
pub mod Sending
pub mod Stops
pub mod Ups
pub mod Waiting
