pub mod Texts
pub mod WordLaws
