pub mod Cleared
pub mod Grouped
pub mod Lists
pub mod OneOutcome
pub mod Outcomes
