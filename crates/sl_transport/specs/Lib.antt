pub mod Flying
pub mod Moments
pub mod Acting
pub mod Answering
pub mod Kinds
pub mod Laws
