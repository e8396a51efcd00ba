pub mod Collected
pub mod Lists
pub mod Occurring
pub mod Stable
pub mod Standing
pub mod Ties
pub mod WellFormed
