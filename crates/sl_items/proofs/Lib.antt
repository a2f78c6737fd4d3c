pub mod DataReaders
pub mod DataTexts
pub mod Appended
pub mod Choices
