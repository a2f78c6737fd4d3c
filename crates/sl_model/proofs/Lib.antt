pub mod Leaves
pub mod Keeping
pub mod Zeros
pub mod MapSteps
pub mod Paths
pub mod Alike
pub mod Blind
pub mod Cells
