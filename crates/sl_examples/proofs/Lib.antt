pub mod Replies
pub mod Effects
pub mod Drops
pub mod Verifiers
pub mod Frames
pub mod Cells
