pub mod Finishing
pub mod Inner
pub mod Listing
pub mod Meeting
