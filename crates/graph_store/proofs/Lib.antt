pub mod Growth
pub mod Listing
pub mod Popping
pub mod Pushing
pub mod Saying
