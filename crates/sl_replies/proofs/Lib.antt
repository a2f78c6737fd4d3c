pub mod Canonical
pub mod Lists
pub mod Replies
pub mod ResultReaders
pub mod Fits
pub mod Passing
pub mod Readable
