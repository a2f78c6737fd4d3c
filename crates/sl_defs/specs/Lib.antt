pub mod Items
pub mod Parts
pub mod Rpc
pub mod Schedules
pub mod Transcripts
pub mod Histories
