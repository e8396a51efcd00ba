pub mod Codes
pub mod Stable
