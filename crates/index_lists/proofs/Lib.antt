pub mod Exchanging
pub mod Leaving
pub mod Rounds
