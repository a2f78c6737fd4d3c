pub mod CellReaders
pub mod Elements
pub mod OneSpelling
pub mod OneText
pub mod Shorts
