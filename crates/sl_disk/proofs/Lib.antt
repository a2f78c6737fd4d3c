pub mod Blaming
pub mod Keeping
pub mod Pieces
pub mod Replays
pub mod Spoils
pub mod Tearing
pub mod Working
