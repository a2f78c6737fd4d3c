pub mod ArrivalLaws
pub mod LedgerLaws
pub mod NotedLaws
pub mod SentLaws
pub mod ServingLaws
pub mod UpLaws
