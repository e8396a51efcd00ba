pub mod OfKinds
pub mod Statements
