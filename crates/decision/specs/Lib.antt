pub mod Decided
pub mod Naming
pub mod Shown
