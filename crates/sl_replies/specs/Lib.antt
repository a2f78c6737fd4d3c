pub mod Laws
pub mod Ranges
pub mod Reading
pub mod Results
pub mod Texts
