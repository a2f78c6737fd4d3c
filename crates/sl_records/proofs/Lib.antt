pub mod RecordReaders
pub mod Shorts
