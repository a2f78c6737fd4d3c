pub mod Blind
pub mod Images
pub mod Performing
pub mod Record
pub mod Shelf
pub mod Stored
