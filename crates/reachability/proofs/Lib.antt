pub mod Flags
pub mod Mentioned
pub mod Placing
pub mod Sorting
