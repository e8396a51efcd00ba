pub mod Sameness
pub mod Winning
