pub mod Counts
pub mod Files
pub mod Inputs
pub mod Language
pub mod Lines
pub mod Reading
pub mod Run
pub mod Writing
