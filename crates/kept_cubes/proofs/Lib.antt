pub mod Failing
pub mod Kept
pub mod Together
pub mod WithAtoms
