pub mod Actors
pub mod Frames
pub mod Laws
pub mod Works
