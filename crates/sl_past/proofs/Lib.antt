pub mod Texts
pub mod Cuts
pub mod Steps
pub mod Spelling
pub mod Others
