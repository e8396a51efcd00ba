pub mod Agenda
pub mod Asserted
pub mod Begun
pub mod Ends
pub mod Merges
pub mod Starts
pub mod Turns
