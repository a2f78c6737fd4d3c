pub mod Fronts
pub mod Transcripts
pub mod Words
