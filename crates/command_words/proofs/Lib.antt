pub mod Digits
pub mod Named
