pub mod Lawful
pub mod Other
pub mod Told
