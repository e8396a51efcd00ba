pub mod Ascii
pub mod Begins
pub mod Longest
pub mod Places
pub mod Runs
pub mod Streams
pub mod Texts
