pub mod Lists
pub mod OneList
pub mod Plain
pub mod Some
pub mod Symbols
pub mod Takes
