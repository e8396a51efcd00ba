pub mod Breadth
pub mod Fresh
pub mod FreshLaws
pub mod Meeting
pub mod Numbering
pub mod Values
