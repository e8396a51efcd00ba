pub mod Again
pub mod Renamed
