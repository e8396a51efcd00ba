pub mod Places
pub mod Marks
pub mod Found
pub mod Spreads
pub mod Stages
pub mod Walked
pub mod Outcomes
