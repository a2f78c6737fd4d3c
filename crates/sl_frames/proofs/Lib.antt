pub mod FrameReaders
pub mod Shorts
pub mod WorkReaders
